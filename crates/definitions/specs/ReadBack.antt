-- A record read back: the substitution that its bytes spell makes the two terms the same, and has the other
-- properties that SCOPE.md asks ('The solver's record').
use Prim.Native.Nat.{ℕ, zero, suc, ◌+◌, ◌-◌, ◌*◌, ◌/◌, ◌%◌, ◌≤◌, ◌<◌}
use Rattle.std.proofs.Math.Decide.{ℕ_discrete, dec_le}
use Rattle.std.proofs.Common.{zero-add, sym, ◌∙◌, inl, inr, length-append, take_at, drop_at, lt-ltb, le-ltb}
use Rattle.std.proofs.Math.Numerals.{add-one}
use native.Mathlib.Omega.{arith}
use Rattle.std.specs.Prelude.{◌≡◌, refl, ◌⊎◌, ◌≢◌, List, [], ◌∷◌, ◌++◌, map, eqb, get_or, take, drop}
use Rattle.std.proofs.Math.Path.{ap}
use Rattle.std.proofs.Math.ListN.{length, get_or-eq_default}
use Rattle.laws.specs.Choice.{pick}
use Rattle.theory.specs.Flat.{Item, sy, va, Terms}
use Rattle.theory.specs.Subst.{vars, Occurs, in?}
use Rattle.theory.specs.Unify.{Bind, ◌:=◌, Has, Unbound}
use Rattle.theory.specs.Canon.{Least, Most, mgu_most, most_same}
use Rattle.theory.specs.Items.{item16, items16, number, number_item, moved_none, codes, length_codes, codes_at, items}
use Rattle.theory.specs.Items.{shift, Fine}
use Rattle.theory.specs.Match.{once}
use Rattle.theory.specs.Solver.{once_cases}
use Rattle.theory.specs.Matcher.{items?}
use Rattle.theory.specs.Fresh.{stays, absent, changed_occurs, kept}
use Rattle.definitions.specs.Records.{Unifier, unless_decided, listed_from, listed_bindings, bytes, field_bytes}
use Rattle.definitions.specs.Records.{written_fields, record_of, count_of, Short}
use Rattle.laws.specs.Sizes.{variable_base, variable_end}
use Rattle.terms.specs.Terms.{arity, numbers}

-- the items of a field: a variable, and its value
abbrev pub field_read : List Item → List Bind → List Bind
field_read [] r = r
field_read (sy f ∷ l) r = r
field_read (va y ∷ l) r = (y := l) ∷ r

-- at most k fields: the tag, the length in two bytes, so many bytes of items
unfoldable pub read_from : ℕ → List ℕ → List Bind
read_from zero w = []
read_from (suc k) [] = []
read_from (suc k) (tag ∷ []) = []
read_from (suc k) (tag ∷ h ∷ []) = []
read_from (suc k) (tag ∷ h ∷ l ∷ w) = pick (eqb tag 16)
    (field_read (items (take (h * 256 + l) w)) (read_from k (drop (h * 256 + l) w))) []

unfoldable pub read_fields : List ℕ → List Bind
read_fields w = read_from (length w) w

-- bytes of items read back
abbrev code : Item → Item
code i = item16 (number i)

code_var : (x : ℕ) → code (va x) ≡ va x
code_var x = let b : variable_base ≤ variable_base + x = omega arith in let e : variable_base + x - variable_base ≡ x = omega arith in rw (le-ltb (variable_base + x) variable_base b, e)

items_bytes : (l : List Item) → items (bytes l) ≡ map code l
unfolding bytes codes numbers
items_bytes [] = refl
items_bytes (i ∷ l) = let e : number i / 256 * 256 + number i % 256 ≡ number i = omega arith in rw (e, moved_none (number i), items_bytes l)

abbrev Kept : List Bind → Type 0
Kept [] = Unit {0}
Kept ((y := l) ∷ r) = (map code l ≡ l) × Kept r

read_written : (r : List Bind) → Kept r → (k : ℕ) → length r ≤ k → read_from k (written_fields r) ≡ r
unfolding read_from written_fields field_bytes
read_written [] a zero b = refl
read_written [] a (suc k) b = refl
read_written ((y := l) ∷ r) a zero b = absurd (omega arith)
read_written ((y := l) ∷ r) a (suc k) b =
    let w = bytes (va y ∷ l) in
    let e : length w / 256 * 256 + length w % 256 ≡ length w = omega arith in
    let f : take (length w) (w ++ written_fields r) ≡ w = take_at w (written_fields r) (length w) refl in
    let g : drop (length w) (w ++ written_fields r) ≡ written_fields r = drop_at w (written_fields r) (length w) refl in
    let i : items w ≡ va y ∷ l = items_bytes (va y ∷ l) ∙ rw (code_var y, a.0) in
    rw (e, f, g, i, read_written r a.1 k (omega arith))

length_written : (r : List Bind) → length r ≤ length (written_fields r)
unfolding written_fields field_bytes
length_written [] = omega arith
length_written ((y := l) ∷ r) = omega (arith, length-append (field_bytes (y := l)) (written_fields r), length_written r)

pub read_listed : (r : List Bind) → Kept r → read_fields (written_fields r) ≡ r
unfolding read_fields
read_listed r a = read_written r a (length (written_fields r)) (length_written r)

-- the listed variables ascend from b on
abbrev pub FieldsAscend : ℕ → List Bind → Type 0
FieldsAscend b [] = Unit {0}
FieldsAscend b ((x := u) ∷ r) = (b ≤ x) × FieldsAscend (suc x) r

ascends_less : (b c : ℕ) (r : List Bind) → b ≤ c → FieldsAscend c r → FieldsAscend b r
ascends_less b c [] l a = tt
ascends_less b c ((x := u) ∷ r) l a = (omega (arith, a.0), a.1)

module _ (θ : ℕ → List Item) where
  listed_ascends : (k y : ℕ) → FieldsAscend y (listed_from θ k y)
  unfolding listed_from
  listed_ascends zero y = tt
  listed_ascends (suc k) y = go (items? (θ y) (vars y)) (listed_ascends k (y + 1))
    where
      go : (d : Dec (θ y ≡ vars y)) → FieldsAscend (y + 1) (listed_from θ k (y + 1)) → FieldsAscend y (unless_decided d (y := θ y) (listed_from θ k (y + 1)))
      go (yes e) a = ascends_less y (y + 1) (listed_from θ k (y + 1)) (omega arith) a
      go (no n) a = (omega arith, rw (← add-one y) a)

  -- what is listed: the value of a variable that changes
  pub listed_has : (k y x : ℕ) (u : List Item) → Has x u (listed_from θ k y) → (u ≡ θ x) × (θ x ≢ vars x) × (x < y + k)
  unfolding listed_from
  listed_has zero y x u h = absurd h
  listed_has (suc k) y x u h = go (items? (θ y) (vars y)) (listed_has k (y + 1) x u) h
    where
      less : (u ≡ θ x) × (θ x ≢ vars x) × (x < y + 1 + k) → (u ≡ θ x) × (θ x ≢ vars x) × (x < y + suc k)
      less a = (a.0, a.1, omega (arith, a.2))

      go : (d : Dec (θ y ≡ vars y)) → (Has x u (listed_from θ k (y + 1)) → (u ≡ θ x) × (θ x ≢ vars x) × (x < y + 1 + k))
          → Has x u (unless_decided d (y := θ y) (listed_from θ k (y + 1))) → (u ≡ θ x) × (θ x ≢ vars x) × (x < y + suc k)
      go (yes e) ih i = less (ih i)
      go (no n) ih (inl e) = (rw e.0 e.1, rw e.0 n, omega (arith, e.0))
      go (no n) ih (inr i) = less (ih i)

  -- what is not listed does not change
  listed_not : (k y x : ℕ) → Unbound x (listed_from θ k y) → y ≤ x → x < y + k → θ x ≡ vars x
  unfolding listed_from
  listed_not zero y x n a b = absurd (omega arith)
  listed_not (suc k) y x n a b = go (items? (θ y) (vars y)) (ℕ_discrete y x) (listed_not k (y + 1) x) n
    where
      go : (d : Dec (θ y ≡ vars y)) → Dec (y ≡ x) → (Unbound x (listed_from θ k (y + 1)) → y + 1 ≤ x → x < y + 1 + k → θ x ≡ vars x)
          → Unbound x (unless_decided d (y := θ y) (listed_from θ k (y + 1))) → θ x ≡ vars x
      go (yes e) (yes p) ih i = rw (← p) e
      go (yes e) (no p) ih i = ih i (omega (arith, p)) (omega arith)
      go (no q) (yes p) ih i = absurd (i.0 p)
      go (no q) (no p) ih i = ih i.1 (omega (arith, p)) (omega arith)

  -- the listing as a substitution, where only the first 64 variables change
  once_listed : ((x : ℕ) → 64 ≤ x → θ x ≡ vars x) → (x : ℕ) → once (listed_bindings θ) x ≡ θ x
  once_listed h x = go (once_cases (listed_bindings θ) x) (dec_le 64 x)
    where
      go : Has x (once (listed_bindings θ) x) (listed_bindings θ) ⊎ (Unbound x (listed_bindings θ) × (once (listed_bindings θ) x ≡ vars x)) → Dec (64 ≤ x) → once (listed_bindings θ) x ≡ θ x
      go (inl a) d = (listed_has 64 0 x (once (listed_bindings θ) x) a).0
      go (inr n) (yes b) = n.1 ∙ sym (h x b)
      go (inr n) (no b) = n.1 ∙ sym (listed_not 64 0 x n.0 (omega arith) (omega arith))

  kept_listed : ((x : ℕ) → map code (θ x) ≡ θ x) → (k y : ℕ) → Kept (listed_from θ k y)
  unfolding listed_from
  kept_listed h zero y = tt
  kept_listed h (suc k) y = go (items? (θ y) (vars y)) (kept_listed h k (y + 1))
    where
      go : (d : Dec (θ y ≡ vars y)) → Kept (listed_from θ k (y + 1)) → Kept (unless_decided d (y := θ y) (listed_from θ k (y + 1)))
      go (yes e) a = a
      go (no n) a = (h y, a)

-- the items of terms are items of bytes, and their variables are below 64
code_terms : (sig : List ℕ) → length sig ≤ 256 → (k : ℕ) (l : List Item) → Terms (arity sig) k l → Terms (arity sig) k (map code l)
code_terms sig b zero [] p = p
code_terms sig b zero (i ∷ l) p = absurd p
code_terms sig b (suc k) [] p = absurd p
code_terms sig b (suc k) (va x ∷ l) p = rw (code_var x) (code_terms sig b k l p)
code_terms sig b (suc k) (sy f ∷ l) p = go (dec_le variable_base f) (code_terms sig b (arity sig f + k) l p)
  where
    go : Dec (variable_base ≤ f) → Terms (arity sig) (arity sig f + k) (map code l) → Terms (arity sig) (suc k) (code (sy f) ∷ map code l)
    go (yes v) q = let z : arity sig f ≡ 0 = get_or-eq_default sig 0 (omega arith) in rw (le-ltb f variable_base v) (rw (z, zero-add) at q)
    go (no v) q = let c : f < variable_base = omega arith in rw (lt-ltb f variable_base c) q

code_items : (cs : List ℕ) → map code (items16 cs) ≡ items16 cs
code_items [] = refl
code_items (c ∷ cs) = rw (number_item c, code_items cs)

code_shift : (n : ℕ) (l : List Item) → map code l ≡ l → map code (shift n l) ≡ shift n l
code_shift n [] e = refl
code_shift n (sy f ∷ l) e = let a : code (sy f) ≡ sy f = cc in let b : map code l ≡ l = cc in rw (a, code_shift n l b)
code_shift n (va x ∷ l) e = let b : map code l ≡ l = cc in rw (code_var (n + x), code_shift n l b)

in_below : (cs : List ℕ) (x : ℕ) → ((p : ℕ) → p < length cs → get_or cs p 0 < variable_end) → Occurs x (items16 cs) → x < 32
in_below [] x h i = absurd i
in_below (c ∷ cs) x h i = go (dec_le variable_base c) i (in_below cs x (λ p b. h (suc p) (omega arith)))
  where
    at : (x ≡ c - variable_base) ⊎ Occurs x (items16 cs) → (Occurs x (items16 cs) → x < 32) → x < 32
    at (inl e) ih = omega (arith, h 0 (omega arith))
    at (inr j) ih = ih j

    go : Dec (variable_base ≤ c) → Occurs x (item16 c ∷ items16 cs) → (Occurs x (items16 cs) → x < 32) → x < 32
    go (yes v) j ih = at (rw (le-ltb c variable_base v) at j) ih
    go (no v) j ih = let b : c < variable_base = omega arith in ih (rw (lt-ltb c variable_base b) at j)

pub term_below : (sig t : List ℕ) → Fine sig t → (x : ℕ) → Occurs x (items t) → x < 32
term_below sig t f x = in_below (codes 0 t) x (λ p b. (let l : p < length t / 2 = omega (arith, length_codes 0 t) in rw (codes_at t p l) (f.named p l)))

pub shift_below : (n x : ℕ) (l : List Item) → ((y : ℕ) → Occurs y l → y < 32) → Occurs x (shift n l) → x < n + 32
shift_below n x [] h i = absurd i
shift_below n x (sy f ∷ l) h i = shift_below n x l h i
shift_below n x (va y ∷ l) h (inl e) = omega (arith, h y (inl refl))
shift_below n x (va y ∷ l) h (inr i) = shift_below n x l (λ z j. h z (inr j)) i

-- the fields r, taken as a substitution that leaves every other variable alone, for the stored term t and the
-- question q
pub record Reads (sig t q : List ℕ) (r : List Bind) : Type 0 where
  -- both terms become the same; every other unifier factors through it; applied twice it is itself
  pub most : Most (arity sig) (items t) (shift 32 (items q)) (once r)
  -- 'all take the one with the smallest written number'
  pub least : Least (once r)
  -- 'by ascending written number'
  pub ascends : FieldsAscend 0 r
  -- 'each variable that occurs and whose value is not itself'
  pub occurs : (x : ℕ) (u : List Item) → Has x u r → Occurs x (items t) ⊎ Occurs x (shift 32 (items q))
  pub differs : (x : ℕ) (u : List Item) → Has x u r → u ≢ vars x

module _ (sig t q : List ℕ) (ft : Fine sig t) (fq : Fine sig q) (θ : ℕ → List Item) (u : Unifier sig (items t) (shift 32 (items q)) θ) where
  beyond : (x : ℕ) → 64 ≤ x → θ x ≡ vars x
  beyond x b = stays (arity sig) (items t) (shift 32 (items q)) θ u.mgu x
      (λ i. omega (arith, term_below sig t ft x i)) (λ i. omega (arith, shift_below 32 x (items q) (term_below sig q fq) i)) u.least

  coded : (x : ℕ) → map code (θ x) ≡ θ x
  coded = kept (arity sig) (items t) (shift 32 (items q)) θ u.mgu code code_var (code_terms sig ft.sized) (code_items (codes 0 t)) (code_shift 32 (items q) (code_items (codes 0 q)))

  -- the bytes of the record are read as what is listed
  pub read_record : read_fields (record_of θ) ≡ listed_bindings θ
  unfolding record_of
  read_record = read_listed (listed_bindings θ) (kept_listed θ coded 64 0)

  pub read_count : count_of θ ≡ length (read_fields (record_of θ))
  unfolding count_of
  read_count = ap length (sym read_record)

  -- and that is the unifier
  pub read_value : (x : ℕ) → once (read_fields (record_of θ)) x ≡ θ x
  read_value x = ap (λ r. once r x) read_record ∙ once_listed θ beyond x

  reads : Reads sig t q (listed_bindings θ)
  reads = record {
    most = most_same (arity sig) (items t) (shift 32 (items q)) θ (once (listed_bindings θ)) (λ x. sym (once_listed θ beyond x)) (mgu_most (arity sig) (items t) (shift 32 (items q)) θ u.mgu);
    least = λ x y e. u.least x y (sym (once_listed θ beyond x) ∙ e);
    ascends = listed_ascends θ 64 0;
    occurs = λ x v h. changed_occurs (arity sig) (items t) (shift 32 (items q)) θ u.mgu u.least x (listed_has θ 64 0 x v h).1;
    differs = λ x v h e. (let l = listed_has θ 64 0 x v h in l.1 (sym l.0 ∙ e));
  }

  pub read_back : Reads sig t q (read_fields (record_of θ))
  read_back = rw read_record reads

-- every number of a list is a byte
abbrev pub Octets : List ℕ → Type 0
Octets [] = Unit {0}
Octets (b ∷ w) = (b < 256) × Octets w

octets_append : (v w : List ℕ) → Octets v → Octets w → Octets (v ++ w)
octets_append [] w a b = b
octets_append (c ∷ v) w a b = (a.0, octets_append v w a.1 b)

octets_bytes : (l : List Item) → map code l ≡ l → ((x : ℕ) → Occurs x l → x < 64) → Octets (bytes l)
unfolding bytes
octets_bytes [] e h = tt
octets_bytes (va x ∷ l) e h = let b : map code l ≡ l = cc in let c = h x (inl refl) in (omega arith, (omega arith, octets_bytes l b (λ y i. h y (inr i))))
octets_bytes (sy f ∷ l) e h = let a : code (sy f) ≡ sy f = cc in let b : map code l ≡ l = cc in go (dec_le variable_base f) a (octets_bytes l b h)
  where
    go : Dec (variable_base ≤ f) → code (sy f) ≡ sy f → Octets (bytes l) → (f / 256 < 256) × ((f % 256 < 256) × Octets (bytes l))
    go (yes v) a o = let c : va (f - variable_base) ≡ sy f = rw (le-ltb f variable_base v) at a in let z : ◌≡◌ {A = ℕ} 0 1 = cc in absurd (omega arith)
    go (no v) a o = (omega arith, (omega arith, o))

pub length_bytes : (l : List Item) → length (bytes l) ≡ 2 * length l
unfolding bytes
length_bytes [] = refl
length_bytes (i ∷ l) = omega (arith, length_bytes l)

module _ (sig t q : List ℕ) (ft : Fine sig t) (fq : Fine sig q) (θ : ℕ → List Item) (u : Unifier sig (items t) (shift 32 (items q)) θ) where
  -- the variables of a value are written variables
  value_below : (x : ℕ) → x < 64 → (z : ℕ) → Occurs z (θ x) → z < 64
  value_below x b z i = go (ℕ_discrete x z) (in? z (items t)) (in? z (shift 32 (items q)))
    where
      go : Dec (x ≡ z) → Dec (Occurs z (items t)) → Dec (Occurs z (shift 32 (items q))) → z < 64
      go (yes e) d c = omega arith
      go (no n) (yes j) c = omega (arith, term_below sig t ft z j)
      go (no n) (no j) (yes k) = omega (arith, shift_below 32 z (items q) (term_below sig q fq) k)
      go (no n) (no j) (no k) = absurd (absent (arity sig) (items t) (shift 32 (items q)) θ u.mgu z j k x n i)

  field_octets : Short θ → (y : ℕ) → y < 64 → Octets (field_bytes (y := θ y))
  unfolding field_bytes bytes
  field_octets s y b =
      let n = length_bytes (θ y) in
      (omega arith, (omega (arith, s y b), (omega arith, (omega arith, (omega arith, octets_bytes (θ y) (coded sig t q ft fq θ u y) (value_below y b))))))

  listed_octets : Short θ → (k y : ℕ) → y + k ≤ 64 → Octets (written_fields (listed_from θ k y))
  unfolding listed_from written_fields
  listed_octets s zero y b = tt
  listed_octets s (suc k) y b = go (items? (θ y) (vars y)) (listed_octets s k (y + 1) (omega arith))
    where
      go : (d : Dec (θ y ≡ vars y)) → Octets (written_fields (listed_from θ k (y + 1))) → Octets (written_fields (unless_decided d (y := θ y) (listed_from θ k (y + 1))))
      go (yes e) o = o
      go (no n) o = octets_append (field_bytes (y := θ y)) (written_fields (listed_from θ k (y + 1))) (field_octets s y (omega arith)) o

  -- where no value is over 2,048 items, the record is a list of bytes: each length fits into two
  pub record_octets : Short θ → Octets (record_of θ)
  unfolding record_of
  record_octets s = listed_octets s 64 0 (omega arith)
