use Prim.Native.Nat.{ℕ, ◌+◌, ◌/◌, ◌≤◌}
use mathlib.Core.Path.{ap, ◌∙◌}
use mathlib.Core.List.{List}
use native.Mathlib.Omega.{arith}
use lib.ListN.{length}
use lib.Seq.{sets}
use Rattle.items.specs.Decoding.{decoded}
use Rattle.unifiable.specs.Pool.{loads}
use Rattle.unifiable.proofs.load_both.Goals as goal

pub returns : goal.returns
returns c = let a = c.args in
    let A = c.requires.1 in
    let s = a.stored.now in
    let q = a.question.now in
    let p = a.pool.now in
    let e = c.load-m.ensures in
    let f = c.load.ensures in
    let is = f.1 ∙ ap (λ (k : ℕ). sets c.load-m.new.out k (decoded 32 q)) e.0 ∙ ap (λ (r : List ℕ). sets r (length s / 2) (decoded 32 q)) e.1 in
    let b : length s / 2 + length q / 2 ≤ length p = omega (arith, c.requires.0, A.stored.short, A.question.short) in
    loads a.sig.now s q p _ _ A b e.0 c.requires.0 is
