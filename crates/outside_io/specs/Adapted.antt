use Rattle.std.specs.Prelude.{ℕ}

-- a reader of std, and how many of its reads failed
pub record AdaptedReader (R : Type 0) : Type 0 where
  pub reader : R
  pub faults : ℕ

-- a writer of std, and how many of its writes failed or took nothing
pub record AdaptedWriter (W : Type 0) : Type 0 where
  pub writer : W
  pub faults : ℕ
