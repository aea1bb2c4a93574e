-- Lines that are typed, or come through a pipe: how their bytes become lines.
use Rattle.std.specs.Prelude.{ℕ, ◌≡◌, ◌≤◌, ◌<◌, ◌==◌, ◌⊎◌, ⊤, Bool, true, false, List, [], ◌∷◌, ◌++◌, Option, Some, None, length, option_map}
use Rattle.std.specs.Io.Buffered.{reader_remaining}
use Rattle.std.specs.Io.KnownBytes.{Consumes, IsAtEnd, Keeps}
use Rattle.mx_plan.specs.Text.{Text}
use Rattle.mx_play.specs.Lines.{ReadsNext, lines_of}
use Rattle.mx_play.specs.declared.line_sources.LineRead.{LineRead}
use Rattle.mx_play.specs.declared.line_sources.LineRead.TheVariants.{Line, TooLong}
use Rattle.mx_play.specs.declared.line_sources.TheConstants.{MAX_LINE}
use Rattle.mx_play.specs.declared.typed_lines.ByteRead.{ByteRead}
use Rattle.mx_play.specs.declared.typed_lines.ByteRead.TheVariants as byte_read
use Rattle.mx_play.specs.declared.typed_lines.Typed.{Typed}

-- bytes of a reader, if they are known
abbrev pub Bytes : Type 0
Bytes = Option (List ℕ)

module _ {R : Type 0} (remaining : R → Option (List ℕ)) where
  -- the bytes still to come, if the reader states them
  abbrev pub to_come : Typed R → Bytes
  to_come t = reader_remaining (λ counted. remaining counted.inner) t.reader

  -- the lines still to come, if their bytes are known
  abbrev pub lines_to_come : Typed R → Option (List Text)
  lines_to_come t = option_map lines_of (to_come t)

-- the first byte was taken; there is none; a signal interrupted the read; or it failed
abbrev pub TakesByte : ByteRead → Bytes → Bytes → Type 0
TakesByte (byte_read.Byte b) old new = Consumes old new (b ∷ [])
TakesByte byte_read.End old new = Keeps old new × IsAtEnd new
TakesByte byte_read.Nothing old new = Keeps old new
TakesByte byte_read.Failure old new = ⊤

-- no byte is a line feed
abbrev pub HasNoFeed : Text → Type 0
HasNoFeed [] = ⊤
HasNoFeed (b ∷ bs) = ((b == 10) ≡ false) × HasNoFeed bs

-- the buffer holds what was taken of a line; or that is too long
abbrev pub Holds : Bool → Text → Text → Type 0
Holds false buffer taken = (buffer ≡ taken) × (length taken ≤ MAX_LINE)
Holds true buffer taken = (MAX_LINE ≤ length buffer) × (MAX_LINE < length taken)

-- a part of the first line was taken from these bytes, and the others are still to come
pub record IsTaking (first now : Bytes) (is_long : Bool) (buffer : Text) : Type 0 where
  pub taken : Text
  pub inner : HasNoFeed taken
  pub consumed : Consumes first now taken
  pub holds : Holds is_long buffer taken

-- how a line was read, by whether it is too long
abbrev pub read_of : Bool → LineRead
read_of false = Line
read_of true = TooLong

-- the byte ends the line; or it was added to the line, unless that is then too long
abbrev pub AddsByte : ℕ → Bool → Text → Option LineRead → Bool → Text → Type 0
AddsByte byte is_long buffer (Some read) is_long' buffer' =
    (byte ≡ 10) × (read ≡ read_of is_long) × (buffer' ≡ buffer)
AddsByte byte is_long buffer None is_long' buffer' =
    ((byte == 10) ≡ false)
    × (((length buffer < MAX_LINE) × (is_long' ≡ is_long) × (buffer' ≡ buffer ++ byte ∷ []))
    ⊎ ((MAX_LINE ≤ length buffer) × (is_long' ≡ true) × (buffer' ≡ buffer)))

-- the first line of these bytes was read; or a part of it, and it goes on
abbrev pub TakesOn : Option LineRead → Bytes → Bytes → Bool → Text → Type 0
TakesOn None first now is_long buffer = IsTaking first now is_long buffer
TakesOn (Some read) first now is_long buffer =
    ReadsNext (option_map lines_of first) read buffer (option_map lines_of now)
