-- What the definitions refuse, by the small histories of mx_member and mx_network; and what they say of journals that have settled
-- nothing.
use Rattle.std.proofs.Common.{ℕ, suc, ◌≡◌, refl, sym, ap, subst}
use Rattle.mx_journal.specs.Bases.{BaseState}
use Rattle.mx_journal.specs.Records.{Ascending}
use Rattle.mx_journal.specs.Settled.{JournalState, joined}
use Rattle.mx_merge.proofs.Joins.{journal_join_ascends, journal_join_is_least}
use Rattle.mx_merge.proofs.Unsettled.{agree_unsettled, base_unsettled, least_unsettled}
use Rattle.mx_member.proofs.Shown as histories
use Rattle.mx_network.proofs.Shown as journals
use Rattle.mx_model_runs.specs.Definitions.{MapsJoin, RefusesHistories, RefusesJournals}

pub histories_refused : RefusesHistories
histories_refused = record {
  two_inside = histories.two_inside;
  two_alternate = histories.two_inside_alternate;
  other_leaves = histories.other_leaves;
  other_number = histories.other_number;
  second_first = histories.second_first;
  second_numbered = histories.second_first_numbered;
  unwritten = histories.unwritten_read;
  stale = histories.stale_read;
  read_outside = histories.read_outside;
  written_outside = histories.written_outside;
  missed = histories.missed_write;
  kept = histories.kept_write;
}

pub journals_refused : RefusesJournals
journals_refused = record {
  shown = journals.shown;
  shown_settled = journals.shown_settled;
  other_shown = journals.not_shown;
  unwritten = journals.unwritten_read;
  not_below = journals.not_below;
  no_join = journals.no_join;
}

-- numbers that ascend from 1 on ascend from above a base at 0 on
from_origin : (base : BaseState) (n : ℕ) (journal : JournalState) → base.upto ≡ n → Ascending (suc n) journal.records → Ascending (suc base.upto) journal.records
from_origin base n journal is order = subst (λ k. Ascending (suc k) journal.records) (sym is) order

pub maps_join : MapsJoin
maps_join a b here there oa ob agreeing =
    let agree = agree_unsettled a b here there agreeing in
    let low = from_origin a.base 0 a (ap (λ (s : BaseState). s.upto) here) oa in
    let high = from_origin b.base 0 b (ap (λ (s : BaseState). s.upto) there) ob in
    let unsettled = base_unsettled a b (joined b a) here there refl in
    (least_unsettled a b (joined b a) here there unsettled oa high (journal_join_ascends a b low ob) (journal_join_is_least a b ob agree), unsettled)
