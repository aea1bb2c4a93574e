use Rattle.std.proofs.Common.{◌∙◌, ap, sym}
use Rattle.mx_journal.specs.declared.ranges.Range.{Range}
use Rattle.arrayvec.specs.ArrayVec.{ArrayVec}
use Rattle.mx_member.specs.declared.parcel.Parcel.TheVariants.{Want}
use Rattle.mx_member.proofs.parcel.Parcel.copy.Goals as goal

pub returns-in-Want : goal.returns-in-Want
returns-in-Want g c = ap (λ (ranges : ArrayVec Range). Want ranges) c.copy_of_ranges.ensures ∙ sym c.in-Want.is
