-- A word, and the names and numbers that follow it.
use Rattle.std.specs.Prelude.{◌++◌, codes, decimal}
use Rattle.mx_plan.specs.Text.{Text}
use Rattle.mx_format.specs.declared.words.Words.{Words}
use Rattle.mx_format.specs.declared.words.Words.TheVariants.{Word, Number, Numbers, Name, NameAndNumber}
use Rattle.mx_format.specs.EventTexts.{named, numbered}

abbrev pub words_text : Words → Text
words_text (Word word) = word.now
words_text (Number word number) = numbered word.now number
words_text (Numbers word number second other) =
    numbered word.now number ++ codes " " ++ numbered second.now other
words_text (Name word name) = named word.now name.now
words_text (NameAndNumber word name number) = named word.now name.now ++ codes " " ++ decimal number
