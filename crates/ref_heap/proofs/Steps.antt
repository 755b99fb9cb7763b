-- Dropping one reference, step by step: what stays true while names are still to be dropped.
use Rattle.std.proofs.Common.{◌≡◌, ◌≢◌, ℕ, ◌+◌, ◌-◌, ◌<◌, ◌≤◌, cond, Option, Some, None, refl, sym, ap, subst, ◌∙◌, arith, inl, inr}
use Rattle.std.proofs.lemmas.Bool.Decides.{eqb_tells}
use Rattle.ref_heap.specs.Words.{naming, cells, Content}
use Rattle.ref_heap.specs.Store.{Block, Blocks, words_of, count_in, naming_in, count, names, one}
use Rattle.ref_heap.specs.Drops.{IsSameBut, IsPart, Freed}
use Rattle.ref_heap.specs.Slots.{Changed}
use Rattle.ref_heap.specs.Chain.{Dropping}
use Rattle.ref_heap.proofs.Sums.{sum_le, sum_changed}

-- the end
pub dropped : (limit : ℕ) (outside : ℕ → ℕ) (before now : Blocks) (due : ℕ → ℕ) → Dropping limit outside before now due → ((n : ℕ) → due n ≡ 0) → Freed limit outside before now
dropped limit outside before now due d none = record {
  part = d.part;
  settled = record { exact = λ n. omega (arith, d.exact n, none n); counted = d.counted };
  greatest = d.greatest;
}

same_trans : (a b c : Option Block) → IsSameBut a b → IsSameBut b c → IsSameBut a c
same_trans None b c p q = tt
same_trans (Some a) None c p q = absurd p
same_trans (Some a) (Some b) None p q = absurd q
same_trans (Some a) (Some b) (Some c) p q = (p.0 ∙ q.0, p.1 ∙ q.1)

same_refl : (a : Option Block) → IsSameBut a a
same_refl None = tt
same_refl (Some a) = (refl, refl)

fewer_named : (a b : Option Block) (n : ℕ) → IsSameBut a b → naming_in a n ≤ naming_in b n
fewer_named None b n p = omega arith
fewer_named (Some a) None n p = absurd p
fewer_named (Some a) (Some b) n p = let e : naming (words_of a) n ≡ naming (words_of b) n = ap (λ (x : Content). naming (cells x) n) p.0 in omega arith

-- a part of a heap names no block more often
pub names_part : (limit : ℕ) (m h : Blocks) (n : ℕ) → IsPart m h → names limit m n ≤ names limit h n
names_part limit m h n p = sum_le limit (λ s. naming_in (m s) n) (λ s. naming_in (h s) n) (λ s. fewer_named (m s) (h s) n (p s))

one_here : (k n : ℕ) → n ≡ k → one k n ≡ 1
one_here k n e = elim (eqb_tells k n) [ inl y ↦ ap (λ b. cond b 1 0) y.0 | inr y ↦ absurd (y.1 (sym e)) ]

one_apart : (k n : ℕ) → n ≢ k → one k n ≡ 0
one_apart k n e = elim (eqb_tells k n) [ inl y ↦ absurd (e (sym y.1)) | inr y ↦ ap (λ b. cond b 1 0) y.0 ]

pub names_changed : (limit : ℕ) (m m' : Blocks) (k : ℕ) (w : Option Block) (n : ℕ) → k < limit → Changed m m' k w → names limit m' n + naming_in (m k) n ≡ names limit m n + naming_in w n
names_changed limit m m' k w n l c =
    sum_changed limit (λ s. naming_in (m' s) n) (λ s. naming_in (m s) n) k l (λ s a. ap (λ b. naming_in b n) (c.apart s a))
    ∙ ap (λ b. names limit m n + naming_in b n) c.here

pub count_here : (m' m : Blocks) (k : ℕ) (w : Option Block) (n : ℕ) → Changed m m' k w → n ≡ k → count m' n ≡ count_in w
count_here m' m k w n c e = ap (λ q. count_in (m' q)) e ∙ ap count_in c.here

pub count_apart : (m' m : Blocks) (k : ℕ) (w : Option Block) (n : ℕ) → Changed m m' k w → n ≢ k → count m' n ≡ count m n
count_apart m' m k w n c e = ap count_in (c.apart n e)

-- a change of one block keeps a part, where the change is to a part
part_changed : (m m' h : Blocks) (k : ℕ) (w : Option Block) → Changed m m' k w → IsSameBut w (h k) → IsPart m h → IsPart m' h
part_changed m m' h k w c p q s =
    elim (eqb_tells s k) [
      | inl y ↦ subst (λ z. IsSameBut (m' z) (h z)) (sym y.1) (subst (λ b. IsSameBut b (h k)) (sym c.here) p)
      | inr y ↦ subst (λ b. IsSameBut b (h s)) (sym (c.apart s y.1)) (q s)
    ]

part_of_changed : (m m' h : Blocks) (k : ℕ) (w : Option Block) → Changed m m' k w → IsSameBut (h k) w → IsPart h m → IsPart h m'
part_of_changed m m' h k w c p q s =
    elim (eqb_tells s k) [
      | inl y ↦ subst (λ z. IsSameBut (h z) (m' z)) (sym y.1) (subst (λ b. IsSameBut (h k) b) (sym c.here) p)
      | inr y ↦ subst (λ b. IsSameBut (h s) b) (sym (c.apart s y.1)) (q s)
    ]

pub none_of_count : (b : Option Block) → ((c : Block) → b ≡ Some c → 0 < c.count) → count_in b ≡ 0 → b ≡ None
none_of_count None h e = refl
none_of_count (Some c) h e = absurd (let l : 0 < c.count = h c refl in omega arith)

some_of_count : (b : Option Block) → 0 < count_in b → (c : Block) × (b ≡ Some c)
some_of_count None h = absurd (omega arith)
some_of_count (Some c) h = (c, refl)

same_none : (b : Option Block) → b ≡ None → IsSameBut b None
same_none None e = tt
same_none (Some c) e = absurd (cc)

-- a name that is due is a live block's
pub present : (limit : ℕ) (outside : ℕ → ℕ) (before now : Blocks) (due : ℕ → ℕ) → Dropping limit outside before now due → (k : ℕ) → 0 < due k → (b : Block) × (now k ≡ Some b)
present limit outside before now due d k l = some_of_count (now k) (let e = d.exact k in omega arith)

same_lowered : (b : Block) (a : Option Block) → IsSameBut (Some b) a → IsSameBut (Some (record b { count = b.count - 1 })) a
same_lowered b None p = absurd p
same_lowered b (Some a) p = (p.0, p.1)

same_to_lowered : (b : Block) (a : Option Block) → IsSameBut a (Some b) → IsSameBut a (Some (record b { count = b.count - 1 }))
same_to_lowered b None p = tt
same_to_lowered b (Some a) p = (p.0, p.1)

-- a name is dropped, and its block keeps others
pub less : (limit : ℕ) (outside : ℕ → ℕ) (before now now' : Blocks) (due due' : ℕ → ℕ) (k : ℕ) (b : Block)
    → Dropping limit outside before now due → now k ≡ Some b → 1 < b.count → k < limit
    → Changed now now' k (Some (record b { count = b.count - 1 }))
    → ((n : ℕ) → due n ≡ one k n + due' n)
    → Dropping limit outside before now' due'
less limit outside before now now' due due' k b d is more l c parts = record {
  exact = λ n.
      let x : count now n ≡ outside n + names limit now n + due n = d.exact n in
      let y : due n ≡ one k n + due' n = parts n in
      let e : names limit now' n + naming_in (now k) n ≡ names limit now n + naming (words_of b) n = names_changed limit now now' k _ n l c in
      let f : naming_in (now k) n ≡ naming (words_of b) n = ap (λ v. naming_in v n) is in
      elim (eqb_tells n k) [
        | inl z ↦
            let g : count now' n ≡ b.count - 1 = count_here now' now k _ n c z.1 in
            let h : count now n ≡ b.count = ap (λ q. count_in (now q)) z.1 ∙ ap count_in is in
            let i : one k n ≡ 1 = one_here k n z.1 in omega arith
        | inr z ↦
            let g : count now' n ≡ count now n = count_apart now' now k _ n c z.1 in
            let i : one k n ≡ 0 = one_apart k n z.1 in omega arith
      ];
  counted = λ n a at.
      elim (eqb_tells n k) [
        | inl z ↦
            let g : count now' n ≡ b.count - 1 = count_here now' now k _ n c z.1 in
            let h : count now' n ≡ a.count = ap count_in at in omega arith
        | inr z ↦ d.counted n a (sym (c.apart n z.1) ∙ at)
      ];
  part = part_changed now now' before k _ c (same_lowered b (before k) (subst (λ v. IsSameBut v (before k)) is (d.part k))) d.part;
  greatest = λ m p s. part_of_changed now now' m k _ c (same_to_lowered b (m k) (subst (λ v. IsSameBut (m k) v) is (d.greatest m p s k))) (d.greatest m p s);
}

-- a name is dropped and was the last of its block: the block goes, and the names in it are due
pub goes : (limit : ℕ) (outside : ℕ → ℕ) (before now now' : Blocks) (due due' : ℕ → ℕ) (k : ℕ) (b : Block)
    → Dropping limit outside before now due → now k ≡ Some b → b.count ≡ 1 → k < limit
    → Changed now now' k None
    → 0 < due k
    → ((n : ℕ) → due n + naming (words_of b) n ≡ one k n + due' n)
    → Dropping limit outside before now' due'
goes limit outside before now now' due due' k b d is last l c some parts =
    let held : count now k ≡ b.count = ap count_in is in
    let all : count now k ≡ outside k + names limit now k + due k = d.exact k in
    let unnamed : names limit now k ≡ 0 = omega arith in
    let unheld : outside k ≡ 0 = omega arith in
    record {
      exact = λ n.
          let x : count now n ≡ outside n + names limit now n + due n = d.exact n in
          let y : due n + naming (words_of b) n ≡ one k n + due' n = parts n in
          let e : names limit now' n + naming_in (now k) n ≡ names limit now n + 0 = names_changed limit now now' k None n l c in
          let f : naming_in (now k) n ≡ naming (words_of b) n = ap (λ v. naming_in v n) is in
          elim (eqb_tells n k) [
            | inl z ↦
                let g : count now' n ≡ 0 = count_here now' now k _ n c z.1 in
                let h : count now n ≡ b.count = ap (λ q. count_in (now q)) z.1 ∙ ap count_in is in
                let i : one k n ≡ 1 = one_here k n z.1 in omega arith
            | inr z ↦
                let g : count now' n ≡ count now n = count_apart now' now k _ n c z.1 in
                let i : one k n ≡ 0 = one_apart k n z.1 in omega arith
          ];
      counted = λ n a at.
          elim (eqb_tells n k) [
            | inl z ↦ absurd (let h : Some a ≡ None = sym at ∙ ap now' z.1 ∙ c.here in cc)
            | inr z ↦ d.counted n a (sym (c.apart n z.1) ∙ at)
          ];
      part = part_changed now now' before k _ c tt d.part;
      greatest = λ m p s.
          let q : IsPart m now = d.greatest m p s in
          let e : count m k ≡ outside k + names limit m k = s.exact k in
          let f : names limit m k ≤ names limit now k = names_part limit m now k q in
          let gone : m k ≡ None = none_of_count (m k) (λ a at. s.counted k a at) (omega arith) in
          part_of_changed now now' m k _ c (same_none (m k) gone) q;
    }

-- the first step: one reference to r is given away
pub starting : (limit : ℕ) (outside : ℕ → ℕ) (before : Blocks) (due : ℕ → ℕ)
    → ((n : ℕ) → count before n ≡ outside n + names limit before n + due n)
    → ((n : ℕ) (b : Block) → before n ≡ Some b → 0 < b.count)
    → Dropping limit outside before before due
starting limit outside before due e c = record { exact = e; counted = c; part = λ s. same_refl (before s); greatest = λ m p s. p }

blocks_alike : (a b : Option Block) → IsSameBut a b → IsSameBut b a → count_in a ≡ count_in b → a ≡ b
blocks_alike None None p q e = refl
blocks_alike None (Some b) p q e = absurd q
blocks_alike (Some a) None p q e = absurd p
blocks_alike (Some a) (Some b) p q e = λ i. Some (record { kind = p.1 i; count = e i; content = p.0 i })

-- there is one heap after
pub freed_one : (limit : ℕ) (outside : ℕ → ℕ) (before a b : Blocks) → Freed limit outside before a → Freed limit outside before b → (n : ℕ) → a n ≡ b n
freed_one limit outside before a b f g n =
    let p : IsPart a b = g.greatest a f.part f.settled in
    let q : IsPart b a = f.greatest b g.part g.settled in
    let x : names limit a n ≤ names limit b n = names_part limit a b n p in
    let y : names limit b n ≤ names limit a n = names_part limit b a n q in
    let u : count a n ≡ outside n + names limit a n = f.settled.exact n in
    let v : count b n ≡ outside n + names limit b n = g.settled.exact n in
    blocks_alike (a n) (b n) (p n) (q n) (omega arith)

-- what outside still names stays, with its words
pub kept_named : (limit : ℕ) (outside : ℕ → ℕ) (before after : Blocks) → Freed limit outside before after → (n : ℕ) → 0 < outside n → (b : Block) × (after n ≡ Some b)
kept_named limit outside before after f n h = some_of_count (after n) (let e = f.settled.exact n in omega arith)

-- and what a kept block names
pub kept_within : (limit : ℕ) (outside : ℕ → ℕ) (before after : Blocks) → Freed limit outside before after → (n : ℕ) → 0 < names limit after n → (b : Block) × (after n ≡ Some b)
kept_within limit outside before after f n h = some_of_count (after n) (let e = f.settled.exact n in omega arith)
