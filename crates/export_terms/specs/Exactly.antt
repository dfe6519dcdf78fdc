-- SCOPE.md, 'The relations themselves' (unifiable): the exported question about one pair is exact both ways. The two
-- premises are the `ensures` of `azunkefogo_unifiable`: they say what is answered where the two terms unify and where
-- they do not; since one of both is so, the answer tells which.
use Rattle.std.specs.Prelude.{ℕ, ◌≡◌, refl, ◌↔◌, Bool, true, false, List}
use Rattle.std.proofs.Common.{sym, ◌∙◌, arith}
use Rattle.theory.specs.Relations.{Decided, Unifiable}
use Rattle.definitions.specs.Decisions.{stands, stands_right}
use Rattle.pairs.specs.Pairs.{pair_refusal}
use Rattle.pairs.proofs.PairLaws.{pair_none}
use Rattle.export_answers.specs.Pair.{Told}

-- r: the refusal or 0; is: the answer behind `&mut`
pub unifiable_exactly : (sig stored question : List ℕ) (r was is : ℕ) → r ≡ pair_refusal sig stored question
    → Told r was is (Unifiable sig stored question) → r ≡ 0
    → ((is ≡ 1) ↔ Unifiable sig stored question) × ((is ≡ 0) ↔ (Unifiable sig stored question → ⊥))
unifiable_exactly sig stored question r was is e h z = go (stands sig 4 stored question) refl decided
  where
    decided : Decided (stands sig 4 stored question) (Unifiable sig stored question)
    decided = let p = pair_none sig stored question (sym e ∙ z) in stands_right sig 4 stored question p.0 p.1 p.2

    go : (b : Bool) → stands sig 4 stored question ≡ b → Decided b (Unifiable sig stored question)
        → ((is ≡ 1) ↔ Unifiable sig stored question) × ((is ≡ 0) ↔ (Unifiable sig stored question → ⊥))
    go true f d =
        let u = d.holds refl in
        let one = h.yes z u in
        (((λ x. u), (λ x. one)), ((λ x n. omega (arith, one, x)), (λ n. absurd (n u))))
    go false f d =
        let n = d.fails refl in
        let none = h.no z n in
        (((λ x. absurd (omega (arith, none, x))), (λ u. absurd (n u))), ((λ x. n), (λ x. none)))
