-- On tables that stand for a store the walk finds the candidates of SCOPE.md, 'Paths and keys': the slots whose term
-- agrees with the question.
use Rattle.std.specs.Prelude.{ℕ, ◌<◌, ◌≡◌, refl, ◌↔◌, List, true}
use Rattle.std.proofs.Math.Option.{Option, some}
use Rattle.slots.specs.Slots.{has}
use Rattle.terms.specs.Terms.{Signed, refusal}
use Rattle.keys.specs.Keys.{Tm, root, sub_at}
use Rattle.terms.specs.Terms.{arity}
use Rattle.definitions.specs.Trees.{Shaped, tree_of}
use Rattle.definitions.specs.Candidates.{opens, stars, candidate}
use Rattle.definitions.specs.Spelt.{tree_shaped}
use Rattle.keysets.specs.KeySets.{Sets, mem}
use Rattle.paths.specs.Rep.{top}
use Rattle.paths.specs.Insert.{St}
use Rattle.paths.specs.Cand.{walk_t_means}
use Rattle.paths.specs.SpeltKeys.{wf}
use Rattle.paths.specs.Agreeing.{agree_means}
use Rattle.termkeys.specs.TermKeysMean.{GoodSt}
use Rattle.candidates.specs.Walk.{walk}
use Rattle.candidates.specs.Has.{walk_has}
use Rattle.laws.specs.Sizes.{root_place, slot_count}

-- st tells what each slot holds
pub candidates_mean : (σ : St Sets) (st : ℕ → Option Tm) (sig : List ℕ) (r : ℕ) (q ws : List ℕ) (s : ℕ) (t : Tm) → GoodSt σ st → Signed sig → refusal sig q ≡ 0 → s < slot_count → st s ≡ some t → Shaped sig t
    → (has (walk σ.link σ.label σ.sets (opens r) (stars r) (tree_of sig q) root_place ws) s ≡ 1) ↔ ((has ws s ≡ 1) × (candidate r (tree_of sig q) t ≡ true))
unfolding sub_at candidate
candidates_mean σ st sig r q ws s t g k f l e w =
    let h = walk_has σ.link σ.label σ.sets (opens r) (stars r) (tree_of sig q) root_place ws (λ i. has ws i ≡ 1) (λ i j. ((λ z. z), (λ z. z))) s l in
    let m = walk_t_means (opens r) (stars r) σ.link σ.label (mem σ.sets) st g.rep (arity sig) s t e (tree_of sig q) root_place root (λ i. has ws i ≡ 1) t top refl (wf sig k (tree_of sig q) (tree_shaped sig q k f)) (wf sig k t w) in
    let a = agree_means (opens r) (stars r) sig k (tree_of sig q) t (tree_shaped sig q k f) w in
    ((λ z. let y = m.0 (h.0 z) in (y.0, a.1 y.1)), (λ z. h.1 (m.1 (z.0, a.0 z.1))))
