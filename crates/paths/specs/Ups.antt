-- Serves SCOPE.md, 'Paths and keys': the ups of a term, read off its flat list of items with the ups that are still
-- to come.
use Rattle.std.specs.Prelude.{ℕ, zero, suc, ◌+◌, ◌*◌, ◌≡◌, List, [], ◌∷◌, ◌++◌}
use Rattle.std.proofs.Common.{ap, ◌∙◌, append_assoc, append-nil, arith}
use Rattle.keys.specs.Keys.{Tm, Args, node, nil, cons, size, sizes}
use Rattle.definitions.specs.Trees.{count_args, items_t, items_a}
use Rattle.paths.specs.TreeWalk.{ups_t, ups_a}

-- the ups of arguments i to i + a - 1 of item n
unfoldable pub kids : ℕ → ℕ → ℕ → List ℕ
kids n i zero = []
kids n i (suc a) = suc (n * 8 + i) ∷ kids n (suc i) a

unfoldable pub ups_f : (ℕ → ℕ) → ℕ → List ℕ → List ℕ → List ℕ
ups_f ar n ps [] = []
ups_f ar n [] (x ∷ xs) = []
ups_f ar n (u ∷ ps) (x ∷ xs) = u ∷ ups_f ar (suc n) (kids n 0 (ar x) ++ ps) xs

unfoldable mutual
  pub ArgumentsCounted : (ℕ → ℕ) → Tm → Type 0
  ArgumentsCounted ar (node x us) = (count_args us ≡ ar x) × AllArgumentsCounted ar us

  pub AllArgumentsCounted : (ℕ → ℕ) → Args → Type 0
  AllArgumentsCounted ar nil = Unit {0}
  AllArgumentsCounted ar (cons t us) = ArgumentsCounted ar t × AllArgumentsCounted ar us

mutual
  unfolding ups_f items_t ups_t size ArgumentsCounted kids count_args

  pub ups_flat : (t : Tm) (ar : ℕ → ℕ) (n u : ℕ) (ps xs : List ℕ) → ArgumentsCounted ar t → ups_f ar n (u ∷ ps) (items_t t ++ xs) ≡ ups_t n u t ++ ups_f ar (n + size t) ps xs
  ups_flat (node x us) ar n u ps xs w =
      let h = ups_args us ar (suc n) n 0 ps xs w.1 in
      let z : suc n + sizes us ≡ n + suc (sizes us) = omega arith in
      ap {B = List ℕ} (λ l. u ∷ l) (rw (w.0, z) at h)

  pub ups_args : (us : Args) (ar : ℕ → ℕ) (m n i : ℕ) (ps xs : List ℕ) → AllArgumentsCounted ar us → ups_f ar m (kids n i (count_args us) ++ ps) (items_a us ++ xs) ≡ ups_a m n i us ++ ups_f ar (m + sizes us) ps xs
  ups_args nil ar m n i ps xs w = let z : m + 0 ≡ m = omega arith in rw z
  ups_args (cons t us) ar m n i ps xs w =
      let a = ups_flat t ar m (suc (n * 8 + i)) (kids n (suc i) (count_args us) ++ ps) (items_a us ++ xs) w.0 in
      let b = ups_args us ar (m + size t) n (suc i) ps xs w.1 in
      let z : m + size t + sizes us ≡ m + (size t + sizes us) = omega arith in
      let c = rw z at b in
      rw (append_assoc, append_assoc) (a ∙ ap (λ (l : List ℕ). ups_t m (suc (n * 8 + i)) t ++ l) c)

pub ups_term : (t : Tm) (ar : ℕ → ℕ) → ArgumentsCounted ar t → ups_f ar 0 (0 ∷ []) (items_t t) ≡ ups_t 0 0 t
unfolding ups_f
ups_term t ar w = let h = ups_flat t ar 0 0 [] [] w in rw (append-nil, append-nil) at h
