use Rattle.std.proofs.Common.{◌∙◌, ◌%◌, ap}
use Rattle.mx_explorer.specs.Weather.{fate_by}
use Rattle.mx_explorer.proofs.weather.WeatherFates.fate.Goals as goal

pub returns-clause-value : goal.returns-clause-value
returns-clause-value c =
    rw (← c.self.view_is)
    (c.fate_of.ensures ∙ ap (λ p. fate_by (p.0 % 256) c.self.inside.lost c.self.inside.doubled) c.next_word-word.ensures)
