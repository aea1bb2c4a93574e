-- The fates of parcels, drawn from a seed.
use Rattle.std.specs.Prelude.{ℕ, ◌+◌, ◌%◌, nat_lt, if◌then◌else◌}
use Rattle.rand_core.specs.Pcg32Seed.{pcg32_seed}
use Rattle.rand_pcg.specs.Lcg.{Lcg}
use Rattle.rand_pcg.specs.Pcg.{pcg32, pcg32_of_seed}
use Rattle.mx_letters.specs.declared.fates.Fate.{Fate}
use Rattle.mx_letters.specs.declared.fates.Fate.TheVariants.{Pass, Drop, Twice}

-- a generator of words; how many of the 256 bytes lose a parcel, and how many repeat one
pub record Climate : Type 0 where
  pub words : Lcg
  pub lost : ℕ
  pub doubled : ℕ

abbrev pub generator_of : ℕ → Lcg
generator_of seed = pcg32_of_seed (pcg32_seed 16 seed)

-- the fate that a byte means: bytes below `lost` lose the parcel, the next `doubled` ones repeat it
abbrev pub fate_by : ℕ → ℕ → ℕ → Fate
fate_by byte lost doubled =
    if nat_lt byte lost then Drop else if nat_lt byte (lost + doubled) then Twice else Pass

-- the next fate: it takes one word, whose lowest byte decides
abbrev pub fate_in : Climate → Fate
fate_in c = fate_by ((pcg32 c.words).0 % 256) c.lost c.doubled

abbrev pub after_fate : Climate → Climate
after_fate c = record { words = (pcg32 c.words).1; lost = c.lost; doubled = c.doubled }
