-- Values that are found from those that are known.
use Rattle.std.proofs.Common.{◌≡◌, ◌<◌, ◌⊎◌, inl, inr, ℕ, List, Option, None, Some, option_map, option_copied, slice_set, get_or, length, refl, sym, ap, subst, ◌∙◌, arith}
use Rattle.std.specs.Prelude.{All}
use Rattle.std.specs.List.{Contains}
use Rattle.std.proofs.lemmas.List.{length-set}
use Rattle.std.proofs.lemmas.List.Elements.{Contains-get_or}
use Rattle.limbo_tree.specs.Exprs as tree
use Rattle.limbo_tree.specs.Exprs.{Expr}
use Rattle.limbo_constants.specs.declared.constant.Constant as constant
use Rattle.limbo_constants.specs.Asked.{asked}
use Rattle.limbo_declarations.specs.Rows as told
use Rattle.limbo_entries.specs.Entries.{Entry, IsEntry, Finds}
use Rattle.limbo_entries.specs.View.{entries_of}
use Rattle.limbo_naming.specs.declared.naming.Naming.{Naming}
use Rattle.limbo_naming.specs.Qualified.{Qualified, of_expr}
use Rattle.limbo_naming.specs.Naming.{Names}
use Rattle.limbo_naming.specs.Told.{Knows}
use Rattle.limbo_naming.proofs.Lists.{set_there, set_other, set_cases}
use Rattle.limbo_constant_values.specs.Values.{HasValue, value, Comes, comes, IsMeant, named, counted, counted_value, iota_name, IsNotConstant, no_value}
use Rattle.limbo_constant_values.specs.Answers.{IsKnown, IsAnswer, of_name, of_counter, answer_in}
use Rattle.limbo_constant_values.specs.Asking.{Evaluates}
use Rattle.limbo_constant_values.specs.Valuing.{Values, AreSound, AreReady, Sets}
use Rattle.limbo_constant_values.specs.declared.meaning.Place.{Place}
use Rattle.limbo_constant_values.proofs.Meanings.{found_mean, same_constant, meanings, coming, one_value, one_meaning}
use Rattle.limbo_constant_values.proofs.Answering.{found_there}

counter_is : (iota : Option ℕ) (c : constant.Constant) → option_map counted_value iota ≡ Some c → (i : ℕ) × (iota ≡ Some i) × (counted_value i ≡ c)
counter_is None c h = absurd cc
counter_is (Some i) c h = (i, refl, let e : counted_value i ≡ c = cc in e)

module _ (n : Naming) (knows : Knows n) (values : Values) (sound : AreSound n values) where
  abbrev es : List Entry
  es = entries_of n.table.now.entries.items

  -- what is answered is meant
  meant_so : (scope : Option ℕ) (iota : Option ℕ) (counter : Option constant.Constant) → counter ≡ option_map counted_value iota → (part : Expr) (a : constant.Constant)
      → IsAnswer es n.implemented scope counter values part a → IsMeant es n.implemented scope iota part a
  meant_so scope iota counter e _ _ (of_name part q r a x y k) = named scope iota part q r a x y (sound r a k)
  meant_so scope iota counter e _ _ (of_counter a x none) =
      let i = counter_is iota a (sym e ∙ x) in
      subst (λ (z : Option ℕ). IsMeant es n.implemented scope z (tree.Name iota_name) a) (sym i.1)
      (subst (λ (z : constant.Constant). IsMeant es n.implemented scope (Some i.0) (tree.Name iota_name) z) i.2 (counted scope i.0 none))

  module _ (place : Place) (iota : Option ℕ) (counts : option_copied place.counter ≡ option_map counted_value iota) (e : Expr) (v : Option constant.Constant)
      (ev : Evaluates n place values e v) where
    pub eval_some : (c : constant.Constant) → v ≡ Some c → Comes es n.implemented place.scope iota e c
    eval_some c h =
        comes place.scope iota e c (answer_in ev.answers)
        (λ part a at x. meant_so place.scope iota (option_copied place.counter) counts part a
        (ev.are.sound (part, a) (found_there es n.implemented knows.sight.once place.scope (option_copied place.counter) values ev.answers part a x)))
        (sym ev.gives ∙ h)

    abbrev Ready : Type 0
    Ready = (part : Expr) (q : Qualified) (r : ℕ) (c : constant.Constant) → Contains (asked e) part → of_expr part ≡ Some q → Names es n.implemented place.scope q r
        → HasValue es n.implemented r c → IsKnown values r c

    answer_so : Ready → (scope io : Option ℕ) (part : Expr) (a : constant.Constant) → IsMeant es n.implemented scope io part a → scope ≡ place.scope → io ≡ iota
        → Contains (asked e) part → IsAnswer es n.implemented place.scope (option_copied place.counter) values part a
    answer_so ready _ _ _ _ (named scope io part q r a x y z) f g at =
        let w = subst (λ (u : Option ℕ). Names es n.implemented u q r) f y in
        of_name part q r a x w (ready part q r a at x w z)
    answer_so ready _ _ _ _ (counted scope i none) f g at =
        of_counter (counted_value i) (counts ∙ ap (option_map counted_value) (sym g)) (λ k w. none k (subst (λ (u : Option ℕ). Finds es n.implemented iota_name u k) (sym f) w))

    pub eval_none : Ready → v ≡ None → (c : constant.Constant) → Comes es n.implemented place.scope iota e c → ⊥
    eval_none ready h c w =
        let z = meanings es n.implemented place.scope iota e c w in
        let same : All (λ part. z.0 part ≡ answer_in ev.answers part) (asked e) = λ k x l.
        let part = get_or (asked e) k x in
        let at = Contains-get_or (asked e) k x l in
        let a = found_mean z.0 e c z.2 part at in
        let m = z.1 part a.0 at a.1 in
        let d = ev.are.complete part a.0 at (answer_so ready place.scope iota part a.0 m refl refl at) in
        let s = meant_so place.scope iota (option_copied place.counter) counts part d.0
        (ev.are.sound (part, d.0) (found_there es n.implemented knows.sight.once place.scope (option_copied place.counter) values ev.answers part d.0 d.1)) in
        a.1 ∙ ap Some (one_meaning es n.implemented knows.sight.once place.scope iota part a.0 d.0 m s) ∙ sym d.1 in
        let f : Some c ≡ None = sym z.2 ∙ same_constant z.0 (answer_in ev.answers) e same ∙ sym ev.gives ∙ h in
        absurd cc

  -- ---- at a declaration

  module _ (k : ℕ) (e : Entry) (expr : Expr) (i : ℕ) (there : IsEntry es k e) (means : e.row.means ≡ told.Constant expr i) where
    pub ready_at : AreReady n k values → (part : Expr) (q : Qualified) (r : ℕ) (c : constant.Constant) → Contains (asked expr) part → of_expr part ≡ Some q
        → Names es n.implemented e.within q r → HasValue es n.implemented r c → IsKnown values r c
    ready_at f part q r c at x y z =
        f r c (record { entry = e; expr = expr; iota = i; part = part; name = q; there = there; means = means; asks = at; is_name = x; names = y }) z

    pub none_at : ((c : constant.Constant) → Comes es n.implemented e.within (Some i) expr c → ⊥) → IsNotConstant es n.implemented k
    none_at f = no_value e expr i there means (λ c v. f c (coming es n.implemented k e expr i c there means v))

    pub sets_at : (c : constant.Constant) → k < length values → Comes es n.implemented e.within (Some i) expr c → Sets n k values (slice_set values k (Some c))
    sets_at c l w = record {
      same_length = length-set values k (Some c);
      sound = λ r d h. elim (set_cases values k r (Some c) (Some d) h) [
        | inl x ↦ sound r d x.0
        | inr x ↦
            let f : c ≡ d = let g = x.1 in cc in
            subst (λ (z : ℕ). HasValue es n.implemented z d) (sym x.0) (subst (λ (z : constant.Constant). HasValue es n.implemented k z) f own)
      ];
      kept = λ r d h. kept_at r d h (decided r k);
      here = λ e' expr' i' t' m'. (c, set_there values k (Some c) l);
    }
      where
        own : HasValue es n.implemented k c
        own = value k e expr i c there means w

        decided : (a b : ℕ) → (a ≡ b) ⊎ (a ≡ b → ⊥)
        decided a b = grind arith

        kept_at : (r : ℕ) (d : constant.Constant) → IsKnown values r d → ((r ≡ k) ⊎ (r ≡ k → ⊥)) → IsKnown (slice_set values k (Some c)) r d
        kept_at r d h (inl x) =
            let f : c ≡ d = one_value es n.implemented knows.sight.once k c d own (subst (λ (z : ℕ). HasValue es n.implemented z d) x (sound r d h)) in
            subst (λ (z : ℕ). IsKnown (slice_set values k (Some c)) z d) (sym x) (subst (λ (z : constant.Constant). IsKnown (slice_set values k (Some c)) k z) f (set_there values k (Some c) l))
        kept_at r d h (inr x) = set_other values k r (Some c) (Some d) h x
