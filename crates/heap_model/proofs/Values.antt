-- Contents of an example: values of any types, and the words that stand for them.
use Rattle.std.proofs.Common.{◌≡◌, ℕ, zero, suc, ◌+◌, ◌<◌, cond, List, [], ◌∷◌, ◌++◌, Option, Some, None, refl, ap, subst, ◌∙◌, arith, ◌⊎◌, inl, inr}
use Rattle.std.specs.Prelude.{eqb}
use Rattle.std.proofs.lemmas.Bool.Decides.{eqb_tells}
use Rattle.heap_model.specs.Facts.{Named, Chars, Part, Facts, Grows, Is, Refers, itself, slice, Covers, refers, chars}
use Rattle.heap_model.specs.Contents.{Contents}
use Rattle.heap_model.proofs.Settle.{covers_more}

pub data Word : Type 0 where
  Plain : ℕ → Word
  Refer : Option ℕ → Word
  Address : (place at : ℕ) → Word

abbrev pub one : Option ℕ → ℕ → ℕ
one None n = 0
one (Some m) n = cond (eqb m n) 1 0

-- how often a word names a block
abbrev pub in_word : Word → ℕ → ℕ
in_word (Plain z) n = 0
in_word (Refer r) n = one r n
in_word (Address p z) n = 0

abbrev pub in_words : List Word → ℕ → ℕ
in_words [] n = 0
in_words (w ∷ ws) n = in_word w n + in_words ws n

-- a part of an array: its name, from where on, and how long
pub record Extent : Type 0 where
  pub name : ℕ
  pub start : ℕ
  pub length : ℕ

-- A value of the source. Numbers are one word here.
mutual
  pub data Value : Type 0 where
    Num : ℕ → Value
    Text : List ℕ → Value
    Ref : Option ℕ → Value
    Arr : Option Extent → Value
    Tup : Values → Value

  pub data Values : Type 0 where
    NoMore : Values
    More : Value → Values → Values

abbrev pub name_of : Option Extent → Option ℕ
name_of None = None
name_of (Some e) = Some e.name

-- how often a value names a heap value
abbrev mutual
  pub in_value : Value → ℕ → ℕ
  in_value (Num z) n = 0
  in_value (Text t) n = 0
  in_value (Ref r) n = one r n
  in_value (Arr a) n = one (name_of a) n
  in_value (Tup vs) n = in_values vs n

  pub in_values : Values → ℕ → ℕ
  in_values NoMore n = 0
  in_values (More v vs) n = in_value v n + in_values vs n

pub data Form : Type 0 where
  Adt : Form
  Elements : (long : ℕ) → Form
  Cell : Form

pub data Kind : Type 0 where
  Formed : Form → Kind
  String : List ℕ → Kind
  Slice : (start length : ℕ) → Kind

pub record HeapValue : Type 0 where
  pub form : Form
  pub parts : Values

pub record Block : Type 0 where
  pub kind : Kind
  pub words : List Word

-- no references
abbrev pub IsPlain : List Word → Type 0
IsPlain [] = Unit {0}
IsPlain (Refer r ∷ ws) = ⊥
IsPlain (Plain z ∷ ws) = IsPlain ws
IsPlain (Address p z ∷ ws) = IsPlain ws

module _ (k : Facts Block Form) where
  abbrev pub TextIs : List ℕ → Option ℕ → Type 0
  TextIs [] None = Unit {0}
  TextIs (c ∷ t) None = ⊥
  TextIs t (Some q) = k.fact q ≡ Some (Chars t)

  abbrev pub RefIs : Option ℕ → Option ℕ → Type 0
  RefIs None None = Unit {0}
  RefIs (Some m) (Some q) = Is k m q
  RefIs _ _ = ⊥

  -- the whole of an array is its block, or a slice of it
  pub data ExtentIs (e : Extent) (q : ℕ) : Type 0 where
    whole : Is k e.name q → e.start ≡ 0 → k.form q ≡ Some (Elements e.length) → ExtentIs e q
    some : k.fact q ≡ Some (Part e.name e.start e.length) → ExtentIs e q

  abbrev pub ArrIs : Option Extent → Option ℕ → Type 0
  ArrIs None None = Unit {0}
  ArrIs (Some e) (Some q) = ExtentIs e q
  ArrIs _ _ = ⊥

  -- these words stand for this value; between the words of a tuple's parts may be plain ones
  abbrev mutual
    pub Stands : Value → List Word → Type 0
    Stands (Num z) ws = ws ≡ Plain z ∷ []
    Stands (Text t) ws = (r : Option ℕ) × (ws ≡ Refer r ∷ []) × TextIs t r
    Stands (Ref o) ws = (r : Option ℕ) × (ws ≡ Refer r ∷ []) × RefIs o r
    Stands (Arr a) ws = (r : Option ℕ) × (ws ≡ Refer r ∷ []) × ArrIs a r
    Stands (Tup vs) ws = StandAll vs ws

    pub StandAll : Values → List Word → Type 0
    StandAll NoMore ws = IsPlain ws
    StandAll (More v vs) ws = (pad : List Word) × (us : List Word) × (rest : List Word) × IsPlain pad × (ws ≡ pad ++ (us ++ rest)) × Stands v us × StandAll vs rest

pub in_append : (us vs : List Word) (n : ℕ) → in_words (us ++ vs) n ≡ in_words us n + in_words vs n
in_append [] vs n = omega arith
in_append (u ∷ us) vs n = omega (arith, in_append us vs n)

pub in_plain : (ws : List Word) (n : ℕ) → IsPlain ws → in_words ws n ≡ 0
in_plain [] n p = refl
in_plain (Plain z ∷ ws) n p = omega (arith, in_plain ws n p)
in_plain (Address q z ∷ ws) n p = omega (arith, in_plain ws n p)
in_plain (Refer r ∷ ws) n p = absurd p

pub one_is : (r : Option ℕ) (n : ℕ) → 0 < one r n → r ≡ Some n
one_is None n p = absurd (omega arith)
one_is (Some m) n p = elim (eqb_tells m n) [
  | inl y ↦ ap Some y.1
  | inr y ↦ absurd (let e : cond {A = ℕ} (eqb m n) 1 0 ≡ 0 = ap (λ b. cond {A = ℕ} b 1 0) y.0 in omega arith)
]

pub one_same : (n : ℕ) → one (Some n) n ≡ 1
one_same n = elim (eqb_tells n n) [
  | inl y ↦ ap (λ b. cond {A = ℕ} b 1 0) y.0
  | inr y ↦ absurd (y.1 refl)
]

pub either : (a b : ℕ) → 0 < a + b → (0 < a) ⊎ (0 < b)
either zero b p = inr (omega arith)
either (suc a) b p = inl (omega arith)

single : (r : Option ℕ) (ws : List Word) (n : ℕ) → ws ≡ Refer r ∷ [] → in_words ws n ≡ one r n
single r ws n e = ap (λ l. in_words l n) e ∙ omega arith

module _ (k : Facts Block Form) where
  -- a reference of the machine, from one of the source
  pub record To (m : ℕ) (ws : List Word) : Type 0 where
    pub block : ℕ
    pub named : 0 < in_words ws block
    pub stands : Refers k m block

  ref_to : (o r : Option ℕ) (m : ℕ) (ws : List Word) → ws ≡ Refer r ∷ [] → RefIs k o r → o ≡ Some m → To m ws
  ref_to None None m ws e s f = absurd cc
  ref_to (Some a) (Some q) m ws e s f = record {
    block = q;
    named = (let x = single (Some q) ws q e in let y = one_same q in omega arith);
    stands = (let g : a ≡ m = cc in itself (subst (λ a. Is k a q) g s));
  }
  ref_to None (Some q) m ws e s f = absurd s
  ref_to (Some a) None m ws e s f = absurd s

  extent_refers : (x : Extent) (q : ℕ) → ExtentIs k x q → Refers k x.name q
  extent_refers x q (whole i s l) = itself i
  extent_refers x q (some f) = slice x.start x.length f

  arr_to : (a : Option Extent) (r : Option ℕ) (m : ℕ) (ws : List Word) → ws ≡ Refer r ∷ [] → ArrIs k a r → name_of a ≡ Some m → To m ws
  arr_to None None m ws e s f = absurd cc
  arr_to (Some a) (Some q) m ws e s f = record {
    block = q;
    named = (let x = single (Some q) ws q e in let y = one_same q in omega arith);
    stands = (let g : a.name ≡ m = cc in subst (λ n. Refers k n q) g (extent_refers a q s));
  }
  arr_to None (Some q) m ws e s f = absurd s
  arr_to (Some a) None m ws e s f = absurd s

  in_parts : (pad us rest ws : List Word) (q : ℕ) → IsPlain pad → ws ≡ pad ++ (us ++ rest) → in_words ws q ≡ in_words us q + in_words rest q
  in_parts pad us rest ws q p e = ap (λ l. in_words l q) e ∙ in_append pad (us ++ rest) q ∙ omega (arith, in_plain pad q p, in_append us rest q)

  mutual
    pub to : (v : Value) (ws : List Word) (m : ℕ) → Stands k v ws → 0 < in_value v m → To m ws
    to (Num z) ws m s p = absurd (omega arith)
    to (Text t) ws m s p = absurd (omega arith)
    to (Ref o) ws m (r, e, s) p = ref_to o r m ws e s (one_is o m p)
    to (Arr a) ws m (r, e, s) p = arr_to a r m ws e s (one_is (name_of a) m p)
    to (Tup vs) ws m s p = to_all vs ws m s p

    pub to_all : (vs : Values) (ws : List Word) (m : ℕ) → StandAll k vs ws → 0 < in_values vs m → To m ws
    to_all NoMore ws m s p = absurd (omega arith)
    to_all (More v vs) ws m (pad, us, rest, plain, e, s, t) p = elim (either (in_value v m) (in_values vs m) p) [
      | inl x ↦ let r = to v us m s x in let y = r.named in record { block = r.block; named = omega (arith, in_parts pad us rest ws r.block plain e); stands = r.stands }
      | inr x ↦ let r = to_all vs rest m t x in let y = r.named in record { block = r.block; named = omega (arith, in_parts pad us rest ws r.block plain e); stands = r.stands }
    ]

  text_from : (t : List ℕ) (r : Option ℕ) (q : ℕ) (named : ℕ → Type 0) → TextIs k t r → r ≡ Some q → Covers k named q
  text_from t (Some a) q named s e = chars t (let g : a ≡ q = cc in subst (λ a. k.fact a ≡ Some (Chars t)) g s)
  text_from t None q named s e = absurd cc

  ref_from : (o r : Option ℕ) (q : ℕ) → RefIs k o r → r ≡ Some q → Covers k (λ m. 0 < one o m) q
  ref_from (Some m) (Some a) q s e = refers m (let y = one_same m in omega arith) (let g : a ≡ q = cc in itself (subst (λ a. Is k m a) g s))
  ref_from None None q s e = absurd cc
  ref_from None (Some a) q s e = absurd s
  ref_from (Some m) None q s e = absurd s

  arr_from : (o : Option Extent) (r : Option ℕ) (q : ℕ) → ArrIs k o r → r ≡ Some q → Covers k (λ m. 0 < one (name_of o) m) q
  arr_from (Some x) (Some a) q s e = refers x.name (let y = one_same x.name in omega arith) (let g : a ≡ q = cc in subst (λ a. Refers k x.name a) g (extent_refers x a s))
  arr_from None None q s e = absurd cc
  arr_from None (Some a) q s e = absurd s
  arr_from (Some x) None q s e = absurd s

  mutual
    pub from : (v : Value) (ws : List Word) (q : ℕ) → Stands k v ws → 0 < in_words ws q → Covers k (λ m. 0 < in_value v m) q
    from (Num z) ws q s p = absurd (let e : in_words ws q ≡ 0 = ap (λ l. in_words l q) s in omega arith)
    from (Text t) ws q (r, e, s) p = text_from t r q _ s (one_is r q (subst (λ n. 0 < n) (single r ws q e) p))
    from (Ref o) ws q (r, e, s) p = ref_from o r q s (one_is r q (subst (λ n. 0 < n) (single r ws q e) p))
    from (Arr a) ws q (r, e, s) p = arr_from a r q s (one_is r q (subst (λ n. 0 < n) (single r ws q e) p))
    from (Tup vs) ws q s p = from_all vs ws q s p

    pub from_all : (vs : Values) (ws : List Word) (q : ℕ) → StandAll k vs ws → 0 < in_words ws q → Covers k (λ m. 0 < in_values vs m) q
    from_all NoMore ws q s p = absurd (omega (arith, in_plain ws q s))
    from_all (More v vs) ws q (pad, us, rest, plain, e, s, t) p = elim (either (in_words us q) (in_words rest q) (subst (λ n. 0 < n) (in_parts pad us rest ws q plain e) p)) [
      | inl x ↦ covers_more k _ _ q (λ m y. omega arith) (from v us q s x)
      | inr x ↦ covers_more k _ _ q (λ m y. omega arith) (from_all vs rest q t x)
    ]

module _ (k k' : Facts Block Form) (g : Grows k k') where
  text_grows : (t : List ℕ) (r : Option ℕ) → TextIs k t r → TextIs k' t r
  text_grows [] None s = tt
  text_grows (c ∷ t) None s = absurd s
  text_grows [] (Some q) s = g.facts q (Chars []) s
  text_grows (c ∷ t) (Some q) s = g.facts q (Chars (c ∷ t)) s

  ref_grows : (o r : Option ℕ) → RefIs k o r → RefIs k' o r
  ref_grows None None s = tt
  ref_grows (Some m) (Some q) s = g.facts q (Named m) s
  ref_grows None (Some q) s = absurd s
  ref_grows (Some m) None s = absurd s

  extent_grows : (e : Extent) (q : ℕ) → ExtentIs k e q → ExtentIs k' e q
  extent_grows e q (whole i s l) = whole (g.facts q (Named e.name) i) s (g.forms q (Elements e.length) l)
  extent_grows e q (some f) = some (g.facts q (Part e.name e.start e.length) f)

  arr_grows : (o : Option Extent) (r : Option ℕ) → ArrIs k o r → ArrIs k' o r
  arr_grows None None s = tt
  arr_grows (Some e) (Some q) s = extent_grows e q s
  arr_grows None (Some q) s = absurd s
  arr_grows (Some m) None s = absurd s

  mutual
    pub stands_grows : (v : Value) (ws : List Word) → Stands k v ws → Stands k' v ws
    stands_grows (Num z) ws s = s
    stands_grows (Text t) ws (r, e, s) = (r, e, text_grows t r s)
    stands_grows (Ref o) ws (r, e, s) = (r, e, ref_grows o r s)
    stands_grows (Arr a) ws (r, e, s) = (r, e, arr_grows a r s)
    stands_grows (Tup vs) ws s = all_grow vs ws s

    pub all_grow : (vs : Values) (ws : List Word) → StandAll k vs ws → StandAll k' vs ws
    all_grow NoMore ws s = s
    all_grow (More v vs) ws (pad, us, rest, plain, e, s, t) = (pad, us, rest, plain, e, stands_grows v us s, all_grow vs rest t)

-- a block stands for a heap value
pub record BlockStands (k : Facts Block Form) (n : ℕ) (v : HeapValue) (b : Block) : Type 0 where
  pub form : k.form n ≡ Some v.form
  pub kind : b.kind ≡ Formed v.form
  pub words : StandAll k v.parts b.words

pub part_is : (q n : ℕ) → 0 < one (Some q) n + 0 → q ≡ n
part_is q n p = let z : Some q ≡ Some n = one_is (Some q) n (omega arith) in cc

abbrev pub contents : Contents HeapValue Block Form
contents = record {
  inside = λ v. in_values v.parts;
  words = λ b. in_words b.words;
  text = λ t. record { kind = String t; words = [] };
  part = λ start length q. record { kind = Slice start length; words = Refer (Some q) ∷ [] };
  stands = BlockStands;
  text_names = λ t n. refl;
  part_names = λ start length q. let y = one_same q in omega arith;
  part_only = λ start length q n p. part_is q n p;
  grows = λ k k' n v b g s. record { form = g.forms n v.form s.form; kind = s.kind; words = all_grow k k' g v.parts b.words s.words };
  to = λ k n v b m s p. let t = to_all k v.parts b.words m s.words p in (t.block, t.named, t.stands);
  from = λ k n v b q s p. from_all k v.parts b.words q s.words p;
}
