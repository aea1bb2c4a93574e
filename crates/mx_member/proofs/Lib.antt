-- What every world keeps. ActsKept: each act of one member. AtRest: the world at rest.
-- Histories: whole histories. Consequences: the journals of a sound world. Inside: who is inside, by the
-- sections. Refused: refused acts. Shown: small histories that the definitions refuse. Running: worlds whose
-- nodes hold their own receipts. RunningTells: what they tell. Joining: the join of all journals.
-- Owners: where the sections are known.
-- The others are the way there, lowest first. Phases: phases. CorePart: the core part of worlds.
-- Cases: what each call gives.
-- OfSections: bases and journals of the sections. SectionLists: sections and their journal. Covering: what
-- journals go on covering. SectionWrites: what the sections wrote. AnyOrder: registers, whatever the order of records.
-- SerialReads: reads in a draft that grows. Moments: an act of one member, and what it has to show.
-- CoreSteps: what the laws of a core say of it. UntoldSteps: acts of which no section tells.
-- EntrySteps: entering and leaving. DraftSteps: acts inside a section. CallsKept: each call.
-- ReceiptLists, OwnReceipts, ReceiptActs, ReceiptHistory: receipts of sections, and of one node.
-- CoreDone, Guarded, Choosing, Writing, Keeping, Settling, Sending, Refusing, Delivering, Leaving: what the calls of a member do,
-- over plain variables.
pub mod Phases
pub mod CorePart
pub mod Cases
pub mod OfSections
pub mod SectionLists
pub mod Covering
pub mod AnyOrder
pub mod SectionWrites
pub mod SerialReads
pub mod Moments
pub mod CoreSteps
pub mod UntoldSteps
pub mod EntrySteps
pub mod DraftSteps
pub mod CallsKept
pub mod ActsKept
pub mod AtRest
pub mod Histories
pub mod Consequences
pub mod Inside
pub mod Refused
pub mod Shown
pub mod ReceiptLists
pub mod OwnReceipts
pub mod ReceiptActs
pub mod ReceiptHistory
pub mod Running
pub mod RunningTells
pub mod Joining
pub mod Owners
pub mod CoreDone
pub mod Guarded
pub mod Choosing
pub mod Writing
pub mod Keeping
pub mod Settling
pub mod Sending
pub mod Refusing
pub mod Delivering
pub mod Leaving
