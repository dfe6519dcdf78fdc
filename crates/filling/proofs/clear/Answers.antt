use Rattle.std.proofs.Common.{ℕ, zero, suc, ◌+◌, ◌<◌, ◌≡◌, refl, ap, List, [], ◌∷◌, ◌++◌, length, drop, replicate, arith}
use Rattle.std.specs.Prelude.{set}
use Rattle.filling.proofs.clear.Goals as goal

-- one cell more is written
more : {X : Type 0} (n : ℕ) (v : X) (d : List X) → n < length d → set (replicate n v ++ drop n d) n v ≡ replicate (n + 1) v ++ drop (n + 1) d
more n v [] h = absurd (omega arith)
more zero v (x ∷ d) h = refl
more (suc n) v (x ∷ d) h = let e : suc n + 1 ≡ suc (n + 1) = omega arith in rw e (ap (λ l. v ∷ l) (more n v d (omega arith)))

pub loop-i-preserved : goal.loop-i-preserved
loop-i-preserved g c = let l = c.loop-i in rw l.invariant (more l.i _ _ (omega arith))
