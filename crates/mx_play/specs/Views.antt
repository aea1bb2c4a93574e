-- What is shown of a session.
use Rattle.std.specs.Prelude.{ℕ, ◌&&◌, false, List, [], ◌++◌, Option, Some, None, codes, slice_get, if◌then◌else◌}
use Rattle.std.specs.Option.{option_map_or}
use Rattle.mx_nodelaws.specs.Core.{Core}
use Rattle.mx_member.specs.Member.{MemberState}
use Rattle.mx_member.specs.declared.parcel.Parcel.{Parcel}
use Rattle.mx_network.specs.Step.{ClusterState}
use Rattle.mx_plan.specs.Text.{Text, line_feed}
use Rattle.mx_plan.specs.Fields.{Fields}
use Rattle.mx_format.specs.Lines.{texts_from}
use Rattle.mx_knowledge.specs.Facts.{Known}
use Rattle.mx_format.specs.FactTexts.{facts_line}
use Rattle.mx_format.specs.NodeTexts.{member_line}
use Rattle.mx_format.specs.ParcelTexts.{parcel_line}
use Rattle.mx_format.specs.StuckTexts.{stuck_text}
use Rattle.mx_scripts.specs.Fates.{is_under_way}
use Rattle.mx_scripts.specs.Standstill.{stuck_in}
use Rattle.mx_scripts.specs.States.{RunState}
use Rattle.mx_play.specs.Cuts.{cut_lines, is_to}

module _ {H S M : Type 0} (core : Core H S M) (knows : S → List Known) (p : Fields) where
  -- the line of a node, and that of what it knows
  abbrev pub node_shown : ℕ → MemberState S → Text
  node_shown i m = member_line core p i m ++ facts_line p (knows m.core)

  -- these lines of the node that was named; of each node, if none was
  abbrev pub standing_lines : Option ℕ → ClusterState S M → Text
  standing_lines None g = texts_from node_shown 0 g.members
  standing_lines (Some node) g = option_map_or (node_shown node) (slice_get g.members node) []

  -- the line of a session that stands still, unless a node was named
  abbrev pub stuck_shown : Option ℕ → RunState S M → Text
  stuck_shown None s = stuck_text false p (stuck_in core knows s)
  stuck_shown (Some node) s = []

module _ {H S M : Type 0} (core : Core H S M) (letter_text : Fields → M → Text) (p : Fields) where
  -- the line of a parcel, if it is under way to the node that was named, or to any node if none was
  abbrev pub waiting_line : Option ℕ → RunState S M → ℕ → ℕ × ℕ × Parcel M → Text
  waiting_line to s k parcel =
      if is_under_way s.fates k && is_to to parcel.1 then parcel_line letter_text p k parcel
      else []

  -- the lines of the parcels under way to the node that was named, or to any, the oldest first
  abbrev pub waiting_lines : Option ℕ → RunState S M → Text
  waiting_lines to s = texts_from (waiting_line to s) 0 s.cluster.sent

  -- what `show` prints: the node that was named, or all, and then its cut links, or all, the
  -- parcels under way to it, or to any node, and whether the session stands still
  abbrev pub view_text : (S → List Known) → Option ℕ → RunState S M → Text
  view_text knows to s =
      standing_lines core knows p to s.cluster ++ cut_lines p to s.fates.links
      ++ waiting_lines to s ++ stuck_shown core knows p to s

abbrev pub mark_line : Text → Text
mark_line word = codes "mark " ++ word ++ line_feed
