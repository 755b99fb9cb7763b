-- The blocks in slots, by serial: what a slot's change does to them.
use Rattle.std.proofs.Common.{◌≡◌, ◌≢◌, ℕ, zero, suc, ◌-◌, ◌<◌, ◌≤◌, true, cond, List, [], ◌∷◌, get_or, Option, Some, None, refl, sym, ap, subst, ◌∙◌, arith, ◌⊎◌, inl, inr}
use Rattle.std.specs.Prelude.{eqb}
use Rattle.std.proofs.lemmas.Bool.Decides.{eqb_tells}
use Rattle.slab.specs.Slab.{Slab, get, Updates}
use Rattle.std.specs.Prelude.{Result, Ok, Err, OnOk, OnErr}
use Rattle.slab.specs.Slab.{slab_len}
use Rattle.ref_heap.specs.Answers.{most}
use Rattle.ref_heap.specs.declared.kind.HeapFault.{HeapFault}
use Rattle.ref_heap.specs.Store.{Block}
use Rattle.ref_heap.specs.declared.slots.Slot.{Slot}
use Rattle.ref_heap.specs.Drops.{number_in}
use Rattle.ref_heap.specs.Slots.{block_of, kept_in, kept, Changed, IsAt, Absent, IsUnique, DropsOne, KeepsOthers, KeepsNumbers, SameBlocks}

-- the slot that a kept block lies in
pub found_in : (slots : List (Option Slot)) (n : ℕ) (b : Block) → kept_in slots n ≡ Some b → (i : ℕ) × (s : Slot) × (get_or slots i None ≡ Some s) × (s.serial ≡ n) × (block_of s ≡ b)
found_in [] n b e = absurd cc
found_in (None ∷ rest) n b e = let p = found_in rest n b e in (suc p.0, p.1, p.2, p.3, p.4)
found_in (Some s ∷ rest) n b e = elim (eqb_tells s.serial n) [
  | inl y ↦ (zero, s, refl, y.1, (let z : Some (block_of s) ≡ Some b = sym (ap (λ v. cond {A = Option Block} v (Some (block_of s)) (kept_in rest n)) y.0) ∙ e in cc))
  | inr y ↦ let p = found_in rest n b (sym (ap (λ v. cond {A = Option Block} v (Some (block_of s)) (kept_in rest n)) y.0) ∙ e) in (suc p.0, p.1, p.2, p.3, p.4)
]

-- a slot's block is kept, if not by another slot
pub kept_some : (slots : List (Option Slot)) (i : ℕ) (s : Slot) → get_or slots i None ≡ Some s → (b : Block) × (kept_in slots s.serial ≡ Some b)
kept_some [] i s e = absurd cc
kept_some (None ∷ rest) zero s e = absurd cc
kept_some (None ∷ rest) (suc i) s e = kept_some rest i s e
kept_some (Some t ∷ rest) zero s e =
    let f : t ≡ s = cc in
    let g : eqb t.serial s.serial ≡ true = elim (eqb_tells t.serial s.serial) [ inl y ↦ y.0 | inr y ↦ absurd (y.1 (ap (λ (v : Slot). v.serial) f)) ] in
    (block_of t, ap (λ v. cond {A = Option Block} v (Some (block_of t)) (kept_in rest s.serial)) g)
kept_some (Some t ∷ rest) (suc i) s e = elim (eqb_tells t.serial s.serial) [
  | inl y ↦ (block_of t, ap (λ v. cond {A = Option Block} v (Some (block_of t)) (kept_in rest s.serial)) y.0)
  | inr y ↦ let p = kept_some rest i s e in (p.0, ap (λ v. cond {A = Option Block} v (Some (block_of t)) (kept_in rest s.serial)) y.0 ∙ p.1)
]

-- the block of a slot is the one kept under its serial
pub kept_at : (m : Slab Slot) (i : ℕ) (s : Slot) → IsUnique m → get m i ≡ Some s → kept m s.serial ≡ Some (block_of s)
kept_at m i s u e =
    let p = kept_some m.slots i s e in
    let q = found_in m.slots s.serial p.0 p.1 in
    let same : q.0 ≡ i = u.one q.0 i q.1 s q.2 e q.3 in
    let f : Some q.1 ≡ Some s = sym q.2 ∙ ap (λ (z : ℕ). get_or m.slots z None) same ∙ e in
    let g : q.1 ≡ s = cc in
    p.1 ∙ ap Some (sym q.4 ∙ ap block_of g)

none_or : (o : Option Block) → (o ≡ None) ⊎ ((b : Block) × (o ≡ Some b))
none_or None = inl refl
none_or (Some b) = inr (b, refl)

pub kept_absent : (m : Slab Slot) (n : ℕ) → Absent m n → kept m n ≡ None
kept_absent m n a = elim (none_or (kept m n)) [
  | inl y ↦ y
  | inr y ↦ let q = found_in m.slots n y.0 y.1 in absurd (a.none q.0 q.1 q.2 q.3)
]

-- slots that change in one place keep their serials apart
pub unique_changed : (m m' : Slab Slot) (i : ℕ) (o : Option Slot) → IsUnique m → Updates m m' i o
    → ((s : Slot) → o ≡ Some s → (t : Slot) × (get m i ≡ Some t) × (t.serial ≡ s.serial)) → IsUnique m'
unique_changed m m' i o u up same =
    let was : (x : ℕ) (s : Slot) → get m' x ≡ Some s → (t : Slot) × (get m x ≡ Some t) × (t.serial ≡ s.serial) = λ x s f. elim (eqb_tells x i) [
      | inl y ↦ let r = same s (sym up.changed ∙ ap (get m') (sym y.1) ∙ f) in (r.0, ap (get m) y.1 ∙ r.1, r.2)
      | inr y ↦ (s, sym (up.others x y.1) ∙ f, refl)
    ] in
    record {
      one = λ j k b c p q e.
          let r = was j b p in
          let s = was k c q in
          u.one j k r.0 s.0 r.1 s.1 (r.2 ∙ e ∙ sym s.2);
      small = λ j b p. let r = was j b p in u.small j r.0 r.1;
    }

-- and elsewhere they keep what they had
pub kept_apart : (m m' : Slab Slot) (i : ℕ) (o : Option Slot) (t : Slot) → IsUnique m → IsUnique m' → Updates m m' i o → get m i ≡ Some t
    → ((s : Slot) → o ≡ Some s → s.serial ≡ t.serial) → (n : ℕ) → n ≢ t.serial → kept m' n ≡ kept m n
kept_apart m m' i o t u u' up is same n a = elim (none_or (kept m n)) [
  | inl y ↦ kept_absent m' n (record {
    none = λ j b e f. elim (eqb_tells j i) [
      | inl z ↦ a (sym f ∙ same b (sym up.changed ∙ ap (get m') (sym z.1) ∙ e))
      | inr z ↦ let w : kept m b.serial ≡ Some (block_of b) = kept_at m j b u (sym (up.others j z.1) ∙ e) in
          let v : None ≡ Some (block_of b) = sym y ∙ ap (kept m) (sym f) ∙ w in absurd cc
    ];
  }) ∙ sym y
  | inr y ↦
      let q = found_in m.slots n y.0 y.1 in
      let other : q.0 ≢ i = λ z. (let f : Some q.1 ≡ Some t = sym q.2 ∙ ap (get m) z ∙ is in let g : q.1 ≡ t = cc in a (sym q.3 ∙ ap (λ (v : Slot). v.serial) g)) in
      let w : kept m' q.1.serial ≡ Some (block_of q.1) = kept_at m' q.0 q.1 u' (up.others q.0 other ∙ q.2) in
      ap (kept m') (sym q.3) ∙ w ∙ ap Some q.4 ∙ sym y.1
]

-- another block of the same serial is put in a slot
pub changed_put : (m m' : Slab Slot) (i : ℕ) (t s : Slot) → IsUnique m → get m i ≡ Some t → Updates m m' i (Some s) → s.serial ≡ t.serial → IsUnique m' × Changed (kept m) (kept m') t.serial (Some (block_of s))
changed_put m m' i t s u is up e =
    let u' = unique_changed m m' i (Some s) u up (λ v f. (t, is, (let g : s ≡ v = cc in sym e ∙ ap (λ (x : Slot). x.serial) g))) in (
      u',
      record {
        here = ap (kept m') (sym e) ∙ kept_at m' i s u' up.changed;
        apart = kept_apart m m' i (Some s) t u u' up is (λ v f. (let g : s ≡ v = cc in ap (λ (x : Slot). x.serial) (sym g) ∙ e));
      },
    )

-- a slot is emptied
pub changed_none : (m m' : Slab Slot) (i : ℕ) (t : Slot) → IsUnique m → get m i ≡ Some t → Updates m m' i None → IsUnique m' × Changed (kept m) (kept m') t.serial None
changed_none m m' i t u is up =
    let u' = unique_changed m m' i None u up (λ v f. absurd cc) in (
      u',
      record {
        here = kept_absent m' t.serial (record {
          none = λ j b e f. elim (eqb_tells j i) [
            | inl z ↦ let w : None ≡ Some b = sym up.changed ∙ ap (get m') (sym z.1) ∙ e in absurd cc
            | inr z ↦ z.1 (u.one j i b t (sym (up.others j z.1) ∙ e) is f)
          ];
        });
        apart = kept_apart m m' i None t u u' up is (λ v f. absurd cc);
      },
    )

le_cases : (n : ℕ) → (1 < n) ⊎ (n ≤ 1)
le_cases zero = inr (omega arith)
le_cases (suc zero) = inr (omega arith)
le_cases (suc (suc n)) = inl (omega arith)

-- one name of a slot's block is dropped
pub drops_slot : (m m' : Slab Slot) (i head next serial : ℕ) → IsUnique m → IsAt m i serial
    → ((b : Slot) → get m i ≡ Some b → 1 < b.count → Updates m m' i (Some (record b { count = b.count - 1 })) × (next ≡ head))
    → ((b : Slot) → get m i ≡ Some b → b.count ≤ 1 → Updates m m' i (Some (record b { count = head })) × (next ≡ i))
    → IsUnique m' × DropsOne m m' serial head next
drops_slot m m' i head next serial u a less last =
    let t = a.block in
    let here : kept m serial ≡ Some (block_of t) = ap (kept m) (sym a.has_serial) ∙ kept_at m i t u a.is in (
      elim (le_cases t.count) [
        | inl more ↦ (changed_put m m' i t (record t { count = t.count - 1 }) u a.is (less t a.is more).0 refl).0
        | inr few ↦ (changed_put m m' i t (record t { count = head }) u a.is (last t a.is few).0 refl).0
      ],
      record {
        less = λ b is more.
            let e : block_of t ≡ b = (let f : Some (block_of t) ≡ Some b = sym here ∙ is in cc) in
            let k : 1 < t.count = (let g : t.count ≡ b.count = ap (λ (x : Block). x.count) e in omega arith) in
            let p = less t a.is k in
            let ch = (changed_put m m' i t (record t { count = t.count - 1 }) u a.is p.0 refl).1 in (
              subst (λ (x : Block). Changed (kept m) (kept m') serial (Some (record x { count = x.count - 1 }))) e
                  (subst (λ (n : ℕ). Changed (kept m) (kept m') n (Some (record (block_of t) { count = t.count - 1 }))) a.has_serial ch),
              p.1,
            );
        last = λ b is one.
            let e : block_of t ≡ b = (let f : Some (block_of t) ≡ Some b = sym here ∙ is in cc) in
            let k : t.count ≤ 1 = (let g : t.count ≡ b.count = ap (λ (x : Block). x.count) e in omega arith) in
            let p = last t a.is k in
            let ch = (changed_put m m' i t (record t { count = head }) u a.is p.0 refl).1 in (
              subst (λ (x : Block). Changed (kept m) (kept m') serial (Some (record x { count = head }))) e
                  (subst (λ (n : ℕ). Changed (kept m) (kept m') n (Some (record (block_of t) { count = head }))) a.has_serial ch),
              subst (λ (n : ℕ). IsAt m' n serial) (sym p.1) (record { block = record t { count = head }; is = p.0.changed; has_serial = a.has_serial }),
            );
      },
    )

pub drops_absent : (m : Slab Slot) (serial head : ℕ) → Absent m serial → DropsOne m m serial head head
drops_absent m serial head a =
    let none = kept_absent m serial a in
    record {
      less = λ b is more. absurd (let f : None ≡ Some b = sym none ∙ is in cc);
      last = λ b is one. absurd (let f : None ≡ Some b = sym none ∙ is in cc);
    }

pub keeps_others : (m m' : Slab Slot) (i serial : ℕ) (o : Option Slot) (t : Slot) → Updates m m' i o → get m i ≡ Some t → t.serial ≡ serial → KeepsOthers m m' serial
keeps_others m m' i serial o t up is has = record {
  slot = λ j b e a. elim (eqb_tells j i) [
    | inl y ↦ absurd (a (let f : Some b ≡ Some t = sym e ∙ ap (get m) y.1 ∙ is in let g : b ≡ t = cc in ap (λ (v : Slot). v.serial) g ∙ has))
    | inr y ↦ up.others j y.1 ∙ e
  ];
}

pub drop_keeps : (m m' : Slab Slot) (i head next serial : ℕ) → IsAt m i serial
    → ((b : Slot) → get m i ≡ Some b → 1 < b.count → Updates m m' i (Some (record b { count = b.count - 1 })) × (next ≡ head))
    → ((b : Slot) → get m i ≡ Some b → b.count ≤ 1 → Updates m m' i (Some (record b { count = head })) × (next ≡ i))
    → KeepsOthers m m' serial
drop_keeps m m' i head next serial a less last = elim (le_cases a.block.count) [
  | inl more ↦ keeps_others m m' i serial _ a.block (less a.block a.is more).0 a.is a.has_serial
  | inr few ↦ keeps_others m m' i serial _ a.block (last a.block a.is few).0 a.is a.has_serial
]

-- the block of a serial is the one in its slot
pub kept_here : (m : Slab Slot) (i serial : ℕ) → IsUnique m → (a : IsAt m i serial) → kept m serial ≡ Some (block_of a.block)
kept_here m i serial u a = ap (kept m) (sym a.has_serial) ∙ kept_at m i a.block u a.is

pub kept_of : (m : Slab Slot) (i serial : ℕ) (b : Slot) → IsUnique m → IsAt m i serial → get m i ≡ Some b → kept m serial ≡ Some (block_of b)
kept_of m i serial b u a is =
    let f : Some b ≡ Some a.block = sym is ∙ a.is in
    let g : b ≡ a.block = cc in
    kept_here m i serial u a ∙ ap (λ (s : Slot). Some (block_of s)) (sym g)

-- the blocks keep their numbers where one of them changes and keeps what it is
pub numbers_put : (m m' : Slab Slot) (k : ℕ) (b b' : Block) → kept m k ≡ Some b → Changed (kept m) (kept m') k (Some b') → number_in (Some b') ≡ number_in (Some b) → slab_len m' ≡ slab_len m → KeepsNumbers m m'
numbers_put m m' k b b' is c e l = record {
  same = λ s. elim (eqb_tells s k) [
    | inl y ↦ ap (λ z. number_in (kept m' z)) y.1 ∙ ap number_in c.here ∙ e ∙ sym (ap number_in is) ∙ ap (λ z. number_in (kept m z)) (sym y.1)
    | inr y ↦ ap number_in (c.apart s y.1)
  ];
  len = l;
}

pub drop_numbers : (m m' : Slab Slot) (i head next serial : ℕ) → IsUnique m → IsAt m i serial
    → ((b : Slot) → get m i ≡ Some b → 1 < b.count → Updates m m' i (Some (record b { count = b.count - 1 })) × (next ≡ head))
    → ((b : Slot) → get m i ≡ Some b → b.count ≤ 1 → Updates m m' i (Some (record b { count = head })) × (next ≡ i))
    → slab_len m' ≡ slab_len m → KeepsNumbers m m'
drop_numbers m m' i head next serial u a less last len =
    let t = a.block in
    let is = kept_at m i t u a.is in
    elim (le_cases t.count) [
      | inl more ↦ numbers_put m m' t.serial (block_of t) _ is (changed_put m m' i t (record t { count = t.count - 1 }) u a.is (less t a.is more).0 refl).1 refl len
      | inr few ↦ numbers_put m m' t.serial (block_of t) _ is (changed_put m m' i t (record t { count = head }) u a.is (last t a.is few).0 refl).1 refl len
    ]

-- a block is put into a free slot
pub changed_new : (m m' : Slab Slot) (i : ℕ) (s : Slot) → IsUnique m → kept m s.serial ≡ None → get m i ≡ None → Updates m m' i (Some s) → i < most
    → IsUnique m' × Changed (kept m) (kept m') s.serial (Some (block_of s))
changed_new m m' i s u none free up small =
    let other : (j : ℕ) (b : Slot) → get m j ≡ Some b → b.serial ≢ s.serial = λ j b e f.
    (let p = kept_some m.slots j b e in let g : None ≡ Some p.0 = sym none ∙ ap (kept m) (sym f) ∙ p.1 in cc) in
    let here : (j : ℕ) (b : Slot) → j ≡ i → get m' j ≡ Some b → b ≡ s = λ j b e f.
    (let g : Some b ≡ Some s = sym f ∙ ap (get m') e ∙ up.changed in cc) in
    let u' : IsUnique m' = record {
      one = λ j k b c p q e. elim (eqb_tells j i) [
        | inl x ↦ elim (eqb_tells k i) [
          | inl y ↦ x.1 ∙ sym y.1
          | inr y ↦ absurd (other k c (sym (up.others k y.1) ∙ q) (sym e ∙ ap (λ (v : Slot). v.serial) (here j b x.1 p)))
        ]
        | inr x ↦ elim (eqb_tells k i) [
          | inl y ↦ absurd (other j b (sym (up.others j x.1) ∙ p) (e ∙ ap (λ (v : Slot). v.serial) (here k c y.1 q)))
          | inr y ↦ u.one j k b c (sym (up.others j x.1) ∙ p) (sym (up.others k y.1) ∙ q) e
        ]
      ];
      small = λ j b p. elim (eqb_tells j i) [
        | inl x ↦ subst (λ (z : ℕ). z < most) (sym x.1) small
        | inr x ↦ u.small j b (sym (up.others j x.1) ∙ p)
      ];
    } in (
      u',
      record {
        here = kept_at m' i s u' up.changed;
        apart = λ n a. elim (none_or (kept m n)) [
          | inl y ↦ kept_absent m' n (record {
            none = λ j b e f. elim (eqb_tells j i) [
              | inl z ↦ a (sym f ∙ ap (λ (v : Slot). v.serial) (here j b z.1 e))
              | inr z ↦ (let w : kept m b.serial ≡ Some (block_of b) = kept_at m j b u (sym (up.others j z.1) ∙ e) in
                  let v : None ≡ Some (block_of b) = sym y ∙ ap (kept m) (sym f) ∙ w in cc)
            ];
          }) ∙ sym y
          | inr y ↦
              let q = found_in m.slots n y.0 y.1 in
              let apart : q.0 ≢ i = λ z. (let f : None ≡ Some q.1 = sym free ∙ ap (get m) (sym z) ∙ q.2 in cc) in
              let w : kept m' q.1.serial ≡ Some (block_of q.1) = kept_at m' q.0 q.1 u' (up.others q.0 apart ∙ q.2) in
              ap (kept m') (sym q.3) ∙ w ∙ ap Some q.4 ∙ sym y.1
        ];
      },
    )

-- what a call made of the block in a slot, where it went on
pub record Became {A : Type 0} (r : Result A HeapFault) (m m' : Slab Slot) (serial : ℕ) (g : Block → Block) : Type 0 where
  pub unique : IsUnique m'
  pub ok : (b : Block) → kept m serial ≡ Some b → OnOk r (Changed (kept m) (kept m') serial (Some (g b)))
  pub err : OnErr r (SameBlocks m m')

pub became : {A : Type 0} (r : Result A HeapFault) (m m' : Slab Slot) (i serial : ℕ) (f : Slot → Slot) (g : Block → Block)
    → ((s : Slot) → (f s).serial ≡ s.serial) → ((s : Slot) → block_of (f s) ≡ g (block_of s)) → IsUnique m → IsAt m i serial
    → ((b : Slot) → get m i ≡ Some b → OnOk r (Updates m m' i (Some (f b)))) → OnErr r (m' ≡ m) → Became r m m' serial g
became (Ok x) m m' i serial f g same is u a ok err =
    let t = a.block in
    let p = changed_put m m' i t (f t) u a.is (ok t a.is) (same t) in
    record {
      unique = p.0;
      ok = λ b e.
          let h : Some (block_of t) ≡ Some b = sym (kept_here m i serial u a) ∙ e in
          let j : block_of t ≡ b = cc in
          subst (λ (n : ℕ). Changed (kept m) (kept m') n (Some (g b))) a.has_serial
          (subst (λ (v : Block). Changed (kept m) (kept m') t.serial (Some v)) (is t ∙ ap g j) p.1);
      err = tt;
    }
became (Err x) m m' i serial f g same is u a ok err =
    record {
      unique = subst (λ (v : Slab Slot). IsUnique v) (sym err) u;
      ok = λ b e. tt;
      err = record { same = λ q. ap (λ (v : Slab Slot). kept v q) err };
    }

pub same_slots : (m : Slab Slot) → SameBlocks m m
same_slots m = record { same = λ q. refl }
