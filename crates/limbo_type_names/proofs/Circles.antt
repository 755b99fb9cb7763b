-- What goes in a circle stands for nothing.
use Rattle.std.proofs.Common.{◌≡◌, ◌<◌, ◌+◌, ℕ, zero, suc, inl, inr, List, Option, true, ap, subst, ◌∙◌, arith}
use Rattle.std.specs.List.{Contains}
use Rattle.std.proofs.lemmas.List.Elements.{Contains-append_cases}
use Rattle.limbo_tree.specs.Types as tree
use Rattle.limbo_types.specs.Types as ty
use Rattle.limbo_types.specs.Types.{Ty, Tys}
use Rattle.limbo_entries.specs.Entries.{Entry, IsEntry, AreOnce}
use Rattle.limbo_naming.specs.Naming.{is_adt, is_module, is_variant}
use Rattle.limbo_naming.specs.Qualified.{Qualified, Simple, Member, of_type}
use Rattle.limbo_naming.specs.Direct.{IsDeclared}
use Rattle.limbo_naming.proofs.Direct.{one_declared}
use Rattle.limbo_unknown.specs.Written.{in_type, in_types}
use Rattle.limbo_type_names.specs.Means as means
use Rattle.limbo_type_names.specs.Means.{Means, AllMean, Stands, RefersTo, IsVariant, is_type}
use Rattle.limbo_type_names.specs.Needs as needs
use Rattle.limbo_type_names.specs.Needs.{NeedsType, NeedsThrough}
use Rattle.limbo_type_names.proofs.Knowing.{one_entry}
use Rattle.limbo_type_names.proofs.Needing.{by_type_from, import_from, only_one}
use Rattle.limbo_type_names.proofs.Unique.{alias_adt, import_adt, alias_module, import_module, variant_no_type}

-- how many steps a type takes
abbrev mutual
  pub depth : {es : List Entry} {m : ℕ} {scope : Option ℕ} {t : tree.Ty} {u : Ty} → Means es m scope t u → ℕ
  depth (means.byte scope) = 0
  depth (means.int scope) = 0
  depth (means.big scope) = 0
  depth (means.chars scope) = 0
  depth (means.array scope t u w) = suc (depth w)
  depth (means.list scope t u w) = suc (depth w)
  depth (means.chan scope t u w) = suc (depth w)
  depth (means.tuple scope ts us w) = suc (depth_all w)
  depth (means.named scope q k u d s) = suc (depth_of s)
  depth (means.ref_to scope q k u d r) = suc (depth_ref r)

  pub depth_all : {es : List Entry} {m : ℕ} {scope : Option ℕ} {ts : tree.Tys} {us : Tys} → AllMean es m scope ts us → ℕ
  depth_all (means.no_more scope) = 0
  depth_all (means.and_more scope t ts u us a b) = suc (depth a + depth_all b)

  pub depth_of : {es : List Entry} {m k : ℕ} {u : Ty} → Stands es m k u → ℕ
  depth_of (means.adt k e i a) = 0
  depth_of (means.module_type k e i a) = 0
  depth_of (means.by_type k e t u i a w) = suc (depth w)
  depth_of (means.imported k e source j u i a d s) = suc (depth_of s)

  pub depth_ref : {es : List Entry} {m k : ℕ} {u : Ty} → RefersTo es m k u → ℕ
  depth_ref (means.of_adt k n s) = suc (depth_of s)
  depth_ref (means.of_variant k a v w) = 0

module _ (es : List Entry) (m : ℕ) where
  -- declaration j stands for something in fewer steps
  abbrev Below : (j n : ℕ) → Type 0
  Below j n = (v : Ty) × (c : Stands es m j v) × (depth_of c < n)

  moved : (j k n : ℕ) (u : Ty) → k ≡ j → (s : Stands es m k u) → depth_of s < n → Below j n
  moved j k n u e = subst (λ (z : ℕ). (s : Stands es m k u) → depth_of s < n → Below z n) e (λ s l. (u, s, l))

  deeper : (j n p : ℕ) → n < suc p → Below j n → Below j p
  deeper j n p l b = (b.0, b.1, let h = b.2 in omega arith)

  -- who needs something is no variant
  needs_no_variant : (j i a v : ℕ) → NeedsType es m j i → IsVariant es j a v → ⊥
  needs_no_variant j i a v (needs.of_type e t q at is h d) w =
      variant_no_type es m e.row.means (ap is_type is) (subst (λ (z : Entry). is_variant z.row.means ≡ true) (one_entry es j w.entry e w.there at) w.is)
  needs_no_variant j i a v (needs.of_import e source at is d) w =
      variant_no_type es m e.row.means (ap is_type is) (subst (λ (z : Entry). is_variant z.row.means ≡ true) (one_entry es j w.entry e w.there at) w.is)

  module _ (once : AreOnce es) (j : ℕ) (plain : (a v : ℕ) → IsVariant es j a v → ⊥) (q : Qualified) where
    variant_here : (k a v : ℕ) → k ≡ j → IsVariant es k a v → ⊥
    variant_here k a v e w = plain a v (subst (λ (z : ℕ). IsVariant es z a v) e w)

    ref_below : (k : ℕ) (u : Ty) (r : RefersTo es m k u) → k ≡ j → Below j (suc (depth_ref r))
    ref_below _ _ (means.of_adt k n s) e = moved j k (suc (suc (depth_of s))) (ty.Adt n) e s (omega arith)
    ref_below _ _ (means.of_variant k a v w) e = absurd (variant_here k a v e w)

    mutual
      named_below : (scope : Option ℕ) (t : tree.Ty) (u : Ty) (w : Means es m scope t u) → Contains (in_type t) q → IsDeclared es m scope q j → Below j (depth w)
      named_below _ _ _ (means.byte scope) h d = absurd (let l = h.1 in omega arith)
      named_below _ _ _ (means.int scope) h d = absurd (let l = h.1 in omega arith)
      named_below _ _ _ (means.big scope) h d = absurd (let l = h.1 in omega arith)
      named_below _ _ _ (means.chars scope) h d = absurd (let l = h.1 in omega arith)
      named_below _ _ _ (means.array scope t u w) h d = deeper j (depth w) (suc (depth w)) (omega arith) (named_below scope t u w h d)
      named_below _ _ _ (means.list scope t u w) h d = deeper j (depth w) (suc (depth w)) (omega arith) (named_below scope t u w h d)
      named_below _ _ _ (means.chan scope t u w) h d = deeper j (depth w) (suc (depth w)) (omega arith) (named_below scope t u w h d)
      named_below _ _ _ (means.tuple scope ts us w) h d = deeper j (depth_all w) (suc (depth_all w)) (omega arith) (all_below scope ts us w h d)
      named_below _ _ _ (means.named scope p k u e s) h d =
          let x : q ≡ of_type p = only_one q (of_type p) h in
          moved j k (suc (depth_of s)) u (one_declared es m scope once (of_type p) k j e (subst (λ (z : Qualified). IsDeclared es m scope z j) x d)) s (omega arith)
      named_below _ _ _ (means.ref_to scope p k u e r) h d =
          let x : q ≡ of_type p = only_one q (of_type p) h in
          ref_below k u r (one_declared es m scope once (of_type p) k j e (subst (λ (z : Qualified). IsDeclared es m scope z j) x d))

      all_below : (scope : Option ℕ) (ts : tree.Tys) (us : Tys) (w : AllMean es m scope ts us) → Contains (in_types ts) q → IsDeclared es m scope q j → Below j (depth_all w)
      all_below _ _ _ (means.no_more scope) h d = absurd (let l = h.1 in omega arith)
      all_below _ _ _ (means.and_more scope t ts u us a b) h d = elim (Contains-append_cases (in_type t) (in_types ts) q h) [
        | inl x ↦ deeper j (depth a) (suc (depth a + depth_all b)) (omega arith) (named_below scope t u a x d)
        | inr x ↦ deeper j (depth_all b) (suc (depth a + depth_all b)) (omega arith) (all_below scope ts us b x d)
      ]

  -- ---- a step, and a way

  adt_needs : (k j : ℕ) (e : Entry) → IsEntry es k e → is_adt e.row.means ≡ true → NeedsType es m k j → ⊥
  adt_needs k j e i a (needs.of_type f t q at is h d) = alias_adt e.row.means t (ap (λ (z : Entry). z.row.means) (one_entry es k e f i at) ∙ is) a
  adt_needs k j e i a (needs.of_import f source at is d) = import_adt e.row.means source (ap (λ (z : Entry). z.row.means) (one_entry es k e f i at) ∙ is) a

  module_needs : (k j : ℕ) (e : Entry) → IsEntry es k e → is_module e.row.means ≡ true → NeedsType es m k j → ⊥
  module_needs k j e i a (needs.of_type f t q at is h d) = alias_module e.row.means t (ap (λ (z : Entry). z.row.means) (one_entry es k e f i at) ∙ is) a
  module_needs k j e i a (needs.of_import f source at is d) = import_module e.row.means source (ap (λ (z : Entry). z.row.means) (one_entry es k e f i at) ∙ is) a

  module _ (once : AreOnce es) where
    needed_below : (k j : ℕ) (u : Ty) (s : Stands es m k u) → NeedsType es m k j → ((a v : ℕ) → IsVariant es j a v → ⊥) → Below j (depth_of s)
    needed_below _ j _ (means.adt k e i a) w plain = absurd (adt_needs k j e i a w)
    needed_below _ j _ (means.module_type k e i a) w plain = absurd (module_needs k j e i a w)
    needed_below _ j _ (means.by_type k e t u i a x) w plain =
        let y = by_type_from es m k j e t i a w in
        deeper j (depth x) (suc (depth x)) (omega arith) (named_below once j plain y.0 e.within t u x y.1 y.2)
    needed_below _ j _ (means.imported k e source l u i a d s) w plain =
        let y = import_from es m k j e source i a w in
        moved j l (suc (depth_of s)) u (one_declared es m e.within once (Member (Simple source) e.row.name) l j d y) s (omega arith)

    first_need : (k j : ℕ) → NeedsThrough es m k j → (i : ℕ) × NeedsType es m k i
    first_need _ _ (needs.at_once k j w) = (j, w)
    first_need _ _ (needs.and_on k i j w v) = (i, w)

    through_below : (k j i : ℕ) → NeedsThrough es m k j → NeedsType es m j i → (u : Ty) (s : Stands es m k u) → Below j (depth_of s)
    through_below _ _ i (needs.at_once k j w) x u s = needed_below k j u s w (λ a v. needs_no_variant j i a v x)
    through_below _ _ i (needs.and_on k h j w v) x u s =
        let f = first_need h j v in
        let b = needed_below k h u s w (λ a v. needs_no_variant h f.0 a v f.1) in
        let c = through_below h j i v x b.0 b.1 in
        (c.0, c.1, let y = c.2 in let z = b.2 in omega arith)

    round : (k n : ℕ) → NeedsThrough es m k k → (u : Ty) (s : Stands es m k u) → depth_of s < n → ⊥
    round k zero w u s l = absurd (omega arith)
    round k (suc n) w u s l =
        let f = first_need k k w in
        let b = through_below k k f.0 w f.1 u s in
        round k n w b.0 b.1 (let y = b.2 in omega arith)

    pub none_circular : (k : ℕ) (u : Ty) → NeedsThrough es m k k → Stands es m k u → ⊥
    none_circular k u w s = round k (suc (depth_of s)) w u s (omega arith)
