use Rattle.mx_explain.proofs.notes.NotesRecorderState.event.Goals as goal

pub note_event-requires : goal.note_event-requires
note_event-requires g c = search c.requires-raw
