-- Serves SCOPE.md, 'Store': a term's keys set and cleared, one item after another.
use Rattle.std.specs.Prelude.{ℕ, zero, suc, ◌+◌, ◌*◌, ◌/◌, ◌%◌, ◌<◌, ◌≡◌, List, [], ◌∷◌, ◌++◌, length, get_or}
use Rattle.std.proofs.Common.{ap, ◌∙◌, append_assoc, append-nil, arith, length-append}
use Rattle.std.proofs.Math.ListN.{get_or-append}
use Rattle.std.proofs.Math.Seq.{get_or-append_seam}
use Rattle.keys.specs.Keys.{Place, root, step, Key, key, Tm, Args, node, nil, cons, end_of, size, keys_t, keys_a}
use Rattle.keys.specs.Keys.{keys_length}
use Rattle.laws.specs.Sizes.{root_place}

-- the place of an item: `up` is 0 at the root, else 1 + 8 * (the number of its parent's item) + (the argument's number)
abbrev pub kid_of : Key → ℕ → Place
kid_of (key P e) i = step P e i

unfoldable pub up_place : List Key → ℕ → Place
up_place acc zero = root
up_place acc (suc v) = kid_of (get_or acc (v / 8) (key root 0)) (v % 8)

unfoldable pub up_num : List ℕ → ℕ → ℕ
up_num acc zero = root_place
up_num acc (suc v) = get_or acc (v / 8) 0 * 8 + v % 8

-- the keys of items with these ups and ends, after those in acc
unfoldable pub key_list : List Key → List ℕ → List ℕ → List Key
key_list acc [] es = []
key_list acc (u ∷ us) [] = []
key_list acc (u ∷ us) (e ∷ es) = key (up_place acc u) e ∷ key_list (acc ++ key (up_place acc u) e ∷ []) us es

-- a term's items: the ups and the ends
unfoldable mutual
  pub ups_t : ℕ → ℕ → Tm → List ℕ
  ups_t n u (node x us) = u ∷ ups_a (suc n) n 0 us

  pub ups_a : ℕ → ℕ → ℕ → Args → List ℕ
  ups_a m n i nil = []
  ups_a m n i (cons t us) = ups_t m (suc (n * 8 + i)) t ++ ups_a (m + size t) n (suc i) us

unfoldable mutual
  pub ends_t : Tm → List ℕ
  ends_t (node x us) = end_of x ∷ ends_a us

  pub ends_a : Args → List ℕ
  ends_a nil = []
  ends_a (cons t us) = ends_t t ++ ends_a us

-- no more than 8 arguments
unfoldable mutual
  pub Eight : Tm → Type 0
  Eight (node x us) = Eights 0 us

  pub Eights : ℕ → Args → Type 0
  Eights i nil = Unit {0}
  Eights i (cons t us) = (i < 8) × Eight t × Eights (suc i) us

length_snoc : {A : Type 0} (l : List A) (a : A) → length (l ++ a ∷ []) ≡ suc (length l)
length_snoc l a = rw length-append (omega arith)

up_kid : (acc : List Key) (n : ℕ) (P : Place) (e i : ℕ) → i < 8 → get_or acc n (key root 0) ≡ key P e → up_place acc (suc (n * 8 + i)) ≡ step P e i
unfolding up_place
up_kid acc n P e i h g = let a : (n * 8 + i) / 8 ≡ n = omega arith in let b : (n * 8 + i) % 8 ≡ i = omega arith in rw (a, b, g)

-- the flat list of keys is the tree's
mutual
  unfolding ups_t ends_t keys_t Eight key_list size

  pub key_list_tree : (t : Tm) (acc : List Key) (u : ℕ) (us es : List ℕ) → Eight t
      → key_list acc (ups_t (length acc) u t ++ us) (ends_t t ++ es) ≡ keys_t (up_place acc u) t ++ key_list (acc ++ keys_t (up_place acc u) t) us es
  key_list_tree (node x ts) acc u us es w =
      let K = key (up_place acc u) (end_of x) in
      let h = key_list_args ts (acc ++ K ∷ []) (length acc) (up_place acc u) (end_of x) 0 us es w (omega (arith, length_snoc acc K)) (get_or-append_seam acc K [] (key root 0)) in
      ap {B = List Key} (λ l. K ∷ l) (rw (length_snoc acc K, append_assoc) at h)

  pub key_list_args : (ts : Args) (acc : List Key) (n : ℕ) (P : Place) (e i : ℕ) (us es : List ℕ) → Eights i ts → n < length acc → get_or acc n (key root 0) ≡ key P e
      → key_list acc (ups_a (length acc) n i ts ++ us) (ends_a ts ++ es) ≡ keys_a P e i ts ++ key_list (acc ++ keys_a P e i ts) us es
  key_list_args nil acc n P e i us es w l g = rw append-nil
  key_list_args (cons t ts) acc n P e i us es w l g =
      let q = up_kid acc n P e i w.0 g in
      let T = keys_t (step P e i) t in
      let a = rw q at (key_list_tree t acc (suc (n * 8 + i)) (ups_a (length acc + size t) n (suc i) ts ++ us) (ends_a ts ++ es) w.1) in
      let m : length (acc ++ T) ≡ length acc + size t = length-append acc T ∙ ap (λ (z : ℕ). length acc + z) (keys_length (step P e i) t) in
      let b = rw m at (key_list_args ts (acc ++ T) n P e (suc i) us es w.2 (omega (arith, m)) (get_or-append acc T (key root 0) n l ∙ g)) in
      let c = rw append_assoc at b in
      rw (append_assoc, append_assoc, append_assoc) (a ∙ ap (λ (z : List Key). T ++ z) c)

pub key_list_keys : (t : Tm) → Eight t → key_list [] (ups_t 0 0 t) (ends_t t) ≡ keys_t root t
unfolding up_place key_list
key_list_keys t w = let h = key_list_tree t [] 0 [] [] w in rw (append-nil, append-nil, append-nil) at h
