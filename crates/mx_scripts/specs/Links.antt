-- Which links are cut.
use Rattle.std.specs.Prelude.{ℕ, zero, suc, ◌/◌, ◌%◌, ◌&&◌, Bool, true, false, List, nat_lt, not, replicate, slice_index_or, slice_set}
use Rattle.mx_stamps.specs.Links.{link_of}
use Rattle.mx_lines.specs.Sides.{crosses}
use Rattle.mx_lines.specs.declared.orders.LinkChange.{LinkChange}
use Rattle.mx_lines.specs.declared.orders.LinkChange.TheVariants.{Cut, CutAll, HealLink, HealNode, Heal}
use Rattle.mx_lines.specs.declared.sides.Sides.{Sides}

-- for each link, whether it is cut
pub record LinkState : Type 0 where
  pub cut : List Bool

abbrev pub uncut : LinkState
uncut = record { cut = replicate 441 false }

-- the link between two nodes is cut, or is not, both ways
abbrev pub with_link : ℕ → ℕ → Bool → LinkState → LinkState
with_link one other cut l = record {
  cut = slice_set (slice_set l.cut (link_of one other) cut) (link_of other one) cut;
}

-- so is each link between a node and one below `count`
abbrev pub with_below : ℕ → ℕ → Bool → LinkState → LinkState
with_below zero node cut l = l
with_below (suc count) node cut l = with_link node count cut (with_below count node cut l)

-- so is each link of a node
abbrev pub with_node : ℕ → Bool → LinkState → LinkState
with_node = with_below 21

-- the link between two nodes is cut or heals, both ways; or all links of a node do; or all heal
abbrev pub changed : LinkChange → LinkState → LinkState
changed (Cut one other) l = with_link one other true l
changed (CutAll node) l = with_node node true l
changed (HealLink one other) l = with_link one other false l
changed (HealNode node) l = with_node node false l
changed Heal l = uncut

abbrev pub is_cut : LinkState → ℕ → ℕ → Bool
is_cut l from to = slice_index_or l.cut (link_of from to) false

-- the link of this index leads from the left side to the right side of a partition, and is not cut
abbrev pub is_across : Sides → LinkState → ℕ → Bool
is_across sides l link =
    nat_lt link 441
    && (crosses sides (link / 21) (link % 21) && not (is_cut l (link / 21) (link % 21)))
