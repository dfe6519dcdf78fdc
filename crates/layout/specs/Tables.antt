-- SCOPE.md, 'Store': the contents of the eight lent tables (docs/TABLES.md).
use Rattle.std.specs.Prelude.{ℕ, List, Bool, length}
use Rattle.layout.specs.Layout.{long_enough}

pub record Tables : Type 0 where
  pub bytes : List ℕ
  pub used : List ℕ
  pub label : List ℕ
  pub link : List ℕ
  pub s0 : List ℕ
  pub s1 : List ℕ
  pub s2 : List ℕ
  pub s3 : List ℕ

abbrev pub held : List ℕ → List ℕ → List ℕ → List ℕ → List ℕ → List ℕ → List ℕ → List ℕ → Tables
held b u l k c d e f = record { bytes = b; used = u; label = l; link = k; s0 = c; s1 = d; s2 = e; s3 = f }

-- refusal 1 is given exactly where this is false
unfoldable pub ample : Tables → Bool
ample T = long_enough (length T.bytes) (length T.used) (length T.label) (length T.link) (length T.s0)
    (length T.s1) (length T.s2) (length T.s3)
