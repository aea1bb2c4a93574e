-- Tests, choices and walks by place, passed on.
pub use Rattle.mx_stamps.proofs.Choices.{cond_true, cond_false, lt_true, lt_false, lt_is, lt_not, eq_true, eq_false, eq_is, eq_not, compared}
pub use Rattle.mx_stamps.proofs.Lists.{in_at, drop_here, take_here}
