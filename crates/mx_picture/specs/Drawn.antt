-- The printed picture.
use Rattle.std.specs.Prelude.{◌≡◌, ◌++◌, ℕ, codes, decimal}
use Rattle.mx_plan.specs.Text.{Text, line_feed}
use Rattle.mx_plan.specs.Fields.{Fields}
use Rattle.mx_plan.specs.declared.shape.Shape.{Shape}
use Rattle.mx_plan.specs.declared.shape.Shape.TheVariants.{Ricart, Maekawa, Raymond}
use Rattle.mx_format.specs.EventTexts.{name_of}
use Rattle.mx_format.specs.Lines.{texts_from}
use Rattle.mx_picture.specs.declared.opening.Frame.{Frame}
use Rattle.mx_picture.specs.declared.opening.Title.{Title}
use Rattle.mx_picture.specs.declared.opening.Title.TheVariants.{Run, Trace}

abbrev pub opening_line : Frame → Text
opening_line frame =
    codes "<svg xmlns=\"http://www.w3.org/2000/svg\" role=\"img\" width=\"" ++ decimal frame.width
    ++ codes "\" height=\"" ++ decimal frame.height ++ codes "\" viewBox=\"-"
    ++ decimal frame.left ++ codes " -" ++ decimal frame.top ++ codes " " ++ decimal frame.width
    ++ codes " " ++ decimal frame.height ++ codes "\">\n"

abbrev pub algorithm_name : Shape → Text
algorithm_name (Ricart count) = codes "Ricart and Agrawala's"
algorithm_name (Maekawa family) = codes "Maekawa's"
algorithm_name (Raymond tree) = codes "Raymond's"

abbrev pub title_start : Text → Text
title_start algorithm = codes "<title>" ++ algorithm ++ codes " algorithm, nodes:"

abbrev pub name_text : Fields → ℕ → Text
name_text p i = codes " " ++ name_of p i

abbrev pub names_text : Fields → Text
names_text p = texts_from (λ i name. name_text p i) 0 p.nodes

abbrev pub title_end : ℕ → Text
title_end events = codes ", events: " ++ decimal events ++ codes "</title>\n"

-- the algorithm, the nodes and the number of events
abbrev pub title_line : Fields → ℕ → Text
title_line p events =
    title_start (algorithm_name p.shape) ++ names_text p ++ title_end events

-- the nodes, and then what `judge` prints of the trace
abbrev pub trace_title : Fields → Text → Text
trace_title p judgement =
    codes "<title>Trace, nodes:" ++ names_text p ++ line_feed ++ judgement
    ++ (codes "</title>" ++ line_feed)

abbrev pub title_text : Fields → Title → Text
title_text p (Run events) = title_line p events
title_text p (Trace judgement _) = trace_title p judgement.now

-- a page: its first line opens it, then comes its title, and its last line closes it
abbrev pub IsPage : Text → Text → Type 0
IsPage title page =
    (frame : Frame) × (body : Text)
    × (page ≡ opening_line frame ++ title ++ body ++ (codes "</svg>" ++ line_feed))

-- a picture of a run of this many events
abbrev pub IsPicture : Fields → ℕ → Text → Type 0
IsPicture p events = IsPage (title_line p events)

-- a picture of a trace; its title has this text, which `judge` prints of the trace
abbrev pub IsTracePicture : Fields → Text → Text → Type 0
IsTracePicture p judgement = IsPage (trace_title p judgement)
