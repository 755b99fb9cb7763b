-- Expressions in statements, by the rules.
use Rattle.std.proofs.Common.{◌≡◌, ◌≢◌, refl, sym, ap, ◌∙◌, subst, ℕ, Bool, true, false, inl, inr, List, [], ◌∷◌, Option, None, Some}
use Rattle.std.proofs.Common.{slice_get}
use Rattle.std.specs.Prelude.{if◌then◌else◌}
use Rattle.std.proofs.lemmas.Bool.{false≢true}
use Rattle.std.proofs.lemmas.Option.{none-some, same_Some}
use Rattle.limbo_tree.specs.Exprs as tree
use Rattle.limbo_tree.specs.Stmts as stmts
use Rattle.limbo_typed.specs.declared.stmt.Constant.{Constant}
use Rattle.limbo_types.specs.Types.{Ty, Int, Chars, Nil, Nothing}
use Rattle.limbo_typed.specs.Typed.{Expr}
use Rattle.limbo_typed.specs.Sound.{type_of, IsSettled, IsCased, is_call}
use Rattle.limbo_standing.specs.Standing.{Settles}
use Rattle.limbo_refusals.specs.Refusals.{Clash, NoneIs}
use Rattle.limbo_arguments.specs.Failing.{FailsAt}
use Rattle.limbo_causes.specs.declared.fault.Cause as code
use Rattle.limbo_causes.specs.Causes.{Cause, Refused, FailsBy, ByRefusal}
use Rattle.limbo_causes.proofs.Telling.{fails_weaker}
use Rattle.limbo_context.specs.Context.{Context, Body}
use Rattle.limbo_layout.specs.Adts.{Def, Variant}
use Rattle.limbo_forms.specs.Forms.{ref_of, choose}
use Rattle.limbo_typed.specs.Fitting.{IsPick}
use Rattle.limbo_folding.specs.Folding.{value_of}
use Rattle.limbo_exprs.specs.limbo_prefixes.Choosing.{has_variants, is_pick}
use Rattle.limbo_exprs.specs.limbo_value_forms.Forms.{itself}
use Rattle.limbo_exprs.specs.limbo_typing.Typing.{HasValue, Types}
use Rattle.limbo_exprs.specs.limbo_typing.Failing.{Fails, FailsValue}
use Rattle.limbo_stating.specs.limbo_local.Points.{ValueAt}
use Rattle.limbo_stating.specs.Around as around
use Rattle.limbo_stating.specs.Around.{FailsToEvaluate, FailsToTest}
use Rattle.limbo_stating.specs.Cases as cases
use Rattle.limbo_stating.specs.Cases.{IsChosenFrom, FailsToChoose, IsLabel, FailsLabel, FailsPattern}
use Rattle.limbo_stating.specs.FailsToState as states
use Rattle.limbo_stating.specs.FailsToState.{FailsToSpawn}
use Rattle.limbo_stating.specs.Reasons.{Reason, ByPart, BadPick, CaseOverlap}
use Rattle.limbo_stating.specs.Picks as picks
use Rattle.limbo_stating.specs.Picks.{IsPicked, FailsToPick}
use Rattle.limbo_stmt_values.specs.Whys.{FailsFor}
use Rattle.limbo_stmt_values.specs.declared.fault.Why.{Why}
use Rattle.limbo_stmt_values.specs.declared.fault.Why.TheVariants.{Part}
use Rattle.limbo_stmt_values.proofs.Told.{part_told, reasons_weaker}
use Rattle.limbo_stmt_values.specs.Leading.{point, From, Leads}
use Rattle.limbo_stmt_values.specs.Labels as labels
use Rattle.limbo_stmt_values.specs.Labels.{IsNoLabel}
use Rattle.limbo_stmt_values.specs.Answering as answering
use Rattle.limbo_stmt_values.specs.Answering.{FailsToAnswer}

pub nil_not_cased : (t : Ty) → t ≡ Nil → IsCased t → ⊥
nil_not_cased t e (inl i) = cc
nil_not_cased t e (inr (inl i)) = cc
nil_not_cased t e (inr (inr i)) = cc

pub chosen_not : (x : Expr) → (IsCased (type_of x) → ⊥) → NoneIs (Settles Chars x) → NoneIs (IsChosenFrom x)
chosen_not x n none _ (cases.as_it_is h) = n h
chosen_not x n none _ (cases.as_string y e s) = none y s

pub chosen_not_at_all : (x : Expr) → (IsCased (type_of x) → ⊥) → (type_of x ≡ Nil → ⊥) → NoneIs (IsChosenFrom x)
chosen_not_at_all x n m _ (cases.as_it_is h) = n h
chosen_not_at_all x n m _ (cases.as_string y e s) = m e

module _ (c : Context) (b : Body) (e : tree.Expr) where
  -- ---- the expression itself fails

  pub evaluate_untyped : (f : code.Cause) → FailsBy f (Fails c b e) → FailsBy f (λ k. From (λ p. FailsToEvaluate p e k) c b)
  evaluate_untyped f h = fails_weaker f _ _ (λ k g n. around.untyped k g) h

  pub test_unvalued : (f : code.Cause) → FailsBy f (FailsValue c b e) → FailsBy f (λ k. From (λ p. FailsToTest p e k) c b)
  test_unvalued f h = fails_weaker f _ _ (λ k g n. around.no_value k g) h

  pub choose_unvalued : (f : code.Cause) → FailsBy f (FailsValue c b e) → FailsBy f (λ k. From (λ p. FailsToChoose p e k) c b)
  choose_unvalued f h = fails_weaker f _ _ (λ k g n. cases.no_value k g) h

  pub spawn_untyped : (f : code.Cause) → FailsBy f (Fails c b e) → FailsBy f (λ k. From (λ p. FailsToSpawn p e k) c b)
  spawn_untyped f h = fails_weaker f _ _ (λ k g n. states.untyped k g) h

  pub answer_unvalued : (asked : Ty) (f : code.Cause) → FailsBy f (FailsValue c b e) → FailsBy f (λ k. From (λ p. FailsToAnswer asked p e
      k) c b)
  answer_unvalued asked f h = fails_weaker f _ _ (λ k g n. answering.no_value k g) h

  -- ---- it doesn't fit

  module _ (x : Expr) (d : Body) where
    pub valued : HasValue c b e x d → (n : ℕ) → ValueAt (point c b n) e x (point c d n)
    valued h n = record { behind = d; has = h; goes_on = refl }

    pub evaluate_open : (f : code.Cause) → Types c b e x d → FailsBy f (λ k. (k ≡ Refused (itself x)) × (IsSettled (type_of x) → ⊥))
        → FailsBy f (λ k. From (λ p. FailsToEvaluate p e k) c b)
    evaluate_open f h g =
        fails_weaker f _ _
        (λ k i n. subst (λ (j : Cause). FailsToEvaluate (point c b n) e j) (sym i.0) (around.open_yet x d h i.1)) g

    pub test_no_int : (f : code.Cause) → HasValue c b e x d → FailsBy f (λ k. (k ≡ Refused (Clash (type_of x) Int)) × (type_of x ≢ Int))
        → FailsBy f (λ k. From (λ p. FailsToTest p e k) c b)
    test_no_int f h g =
        fails_weaker f _ _
        (λ k i n. subst (λ (j : Cause). FailsToTest (point c b n) e j) (sym i.0) (around.no_int x (point c d n) (valued h n) i.1)) g

    pub choose_none : (f : code.Cause) → HasValue c b e x d → FailsBy f (λ k. (k ≡ Refused (itself x)) × NoneIs (IsChosenFrom x))
        → FailsBy f (λ k. From (λ p. FailsToChoose p e k) c b)
    choose_none f h g =
        fails_weaker f _ _
        (λ k i n. subst (λ (j : Cause). FailsToChoose (point c b n) e j) (sym i.0) (cases.no_choice x (point c d n) (valued h n) i.1)) g

    pub spawn_no_call : (f : code.Cause) → Types c b e x d
        → FailsBy f (λ k. (k ≡ Refused (Clash (type_of x) Nothing)) × ((is_call x ≡ true) × (type_of x ≡ Nothing) → ⊥))
        → FailsBy f (λ k. From (λ p. FailsToSpawn p e k) c b)
    spawn_no_call f h g =
        fails_weaker f _ _
        (λ k i n. subst (λ (j : Cause). FailsToSpawn (point c b n) e j) (sym i.0) (states.no_call x d h i.1)) g

    pub answer_unfit : (asked : Ty) (f : code.Cause) → HasValue c b e x d → FailsBy f (ByRefusal (FailsAt asked x))
        → FailsBy f (λ k. From (λ p. FailsToAnswer asked p e k) c b)
    answer_unfit asked f h g =
        fails_weaker f _ _
        (λ k i n.
        subst (λ (j : Cause). FailsToAnswer asked (point c b n) e j) (sym i.1)
        (answering.unfit x (point c d n) i.0 (valued h n) i.2)) g

-- ---- loops

pub no_condition : (x : Expr) → around.always (value_of x) ≡ true → around.condition x ≡ None
no_condition x e = ap (λ (b : Bool). if b then None else Some x) e

pub a_condition : (x : Expr) → around.always (value_of x) ≡ false → around.condition x ≡ Some x
a_condition x e = ap (λ (b : Bool). if b then None else Some x) e

-- ---- picks

pick_is : (defs : List Def) (n : ℕ) → is_pick defs n ≡ true → IsPick defs n
pick_is defs n e = go (slice_get defs n) refl e
  where
    go : (o : Option Def) → slice_get defs n ≡ o → choose o false (λ d. has_variants d.picks) ≡ true → IsPick defs n
    go None r h = absurd (false≢true h)
    go (Some d) r h = record { def = d; there = r; variants = λ m. false≢true (sym (ap has_variants m) ∙ h) }

pick_found : (defs : List Def) (n : ℕ) → is_pick defs n ≡ false → IsPick defs n → ⊥
pick_found defs n e h = go h.def.picks h.variants (sym (ap (λ (o : Option Def). choose o false (λ d. has_variants d.picks)) h.there) ∙ e)
  where
    go : (vs : List Variant) → (vs ≡ [] → ⊥) → has_variants vs ≡ false → ⊥
    go [] f g = f refl
    go (v ∷ vs) f g = false≢true (sym g)

pub picked_of : (c : Context) (x : Expr) (a : ℕ) → Some a ≡ ref_of (type_of x) → is_pick c.adts a ≡ true → IsPicked c x a
picked_of c x a e h = record { of = sym e; pick = pick_is c.adts a h }

pub not_picked_of : (c : Context) (x : Expr) (a : ℕ) → Some a ≡ ref_of (type_of x) → is_pick c.adts a ≡ false → NoneIs (IsPicked c x)
not_picked_of c x a e h n p =
    pick_found c.adts a h (subst (λ (m : ℕ). IsPick c.adts m) (sym (same_Some a n (e ∙ p.of))) p.pick)

pub no_ref_of : (c : Context) (x : Expr) → None ≡ ref_of (type_of x) → NoneIs (IsPicked c x)
no_ref_of c x e n p = none-some n (e ∙ p.of)

module _ (c : Context) (b : Body) (e : tree.Expr) where
  pub pick_unvalued : (f : code.Cause) (w : Why) → w ≡ Part f → FailsBy f (FailsValue c b e)
      → FailsFor w (λ k. From (λ p. FailsToPick p e k) c b)
  pick_unvalued f w i h = part_told f w _ i (fails_weaker f _ _ (λ k g n. picks.no_value k g) h)

  pub pick_none : (x : Expr) (d : Body) → HasValue c b e x d → NoneIs (IsPicked c x) → (n : ℕ) → FailsToPick (point c b n) e BadPick
  pick_none x d h none n = picks.no_pick x (point c d n) (valued c b e x d h n) none

-- ---- labels

module _ (t : Ty) (c : Context) (b : Body) where
  pub label_unvalued : (e : tree.Expr) (f : code.Cause) (w : Why) → w ≡ Part f → FailsBy f (FailsValue c b e)
      → FailsFor w (λ k. From (λ p. FailsLabel t p e k) c b)
  label_unvalued e f w i h = part_told f w _ i (fails_weaker f _ _ (λ k g n. cases.unvalued k g) h)

  pub label_unfit : (e : tree.Expr) (w : Why) (x : Expr) (d : Body) → HasValue c b e x d → FailsFor w (IsNoLabel t x)
      → FailsFor w (λ k. From (λ p. FailsLabel t p e k) c b)
  label_unfit e w x d h g = reasons_weaker w _ _ (λ k i n. go k i n) g
    where
      go : (k : Reason) → IsNoLabel t x k → (n : ℕ) → FailsLabel t (point c b n) e k
      go _ (labels.other_type m) n = cases.other_type x (point c d n) (valued c b e x d h n) m
      go _ (labels.not_constant m) n = cases.not_constant x (point c d n) (valued c b e x d h n) m

  pub single_fails : (e : tree.Expr) (w : Why) → FailsFor w (λ k. From (λ p. FailsLabel t p e k) c b)
      → FailsFor w (λ k. From (λ p. FailsPattern t p (stmts.Value e) k) c b)
  single_fails e w g = reasons_weaker w _ _ (λ k i n. cases.only e k (i n)) g

  pub from_fails : (e f : tree.Expr) (w : Why) → FailsFor w (λ k. From (λ p. FailsLabel t p e k) c b)
      → FailsFor w (λ k. From (λ p. FailsPattern t p (stmts.Range e f) k) c b)
  from_fails e f w g = reasons_weaker w _ _ (λ k i n. cases.from e f k (i n)) g

  pub to_fails : (e f : tree.Expr) (w : Why) (v : Constant) (d : Body) → Leads (λ p q. IsLabel t p e v q) c b d
      → FailsFor w (λ k. From (λ p. FailsLabel t p f k) c d) → FailsFor w (λ k. From (λ p. FailsPattern t p (stmts.Range e f) k) c b)
  to_fails e f w v d l g = reasons_weaker w _ _ (λ k i n. cases.to e f v (point c d n) k (l n) (i n)) g

pub no_constant : (t : Ty) (x : Expr) (w : Why) → FailsFor w (λ k. (k ≡ CaseOverlap) × (value_of x ≡ None)) → FailsFor w (IsNoLabel t x)
no_constant t x w g =
    reasons_weaker w _ _ (λ k i. subst (λ (j : Reason). IsNoLabel t x j) (sym i.0) (labels.not_constant i.1)) g

pub other_label : (t : Ty) (x : Expr) (f : code.Cause) (w : Why) → w ≡ Part f → (type_of x ≢ t)
    → FailsBy f (λ k. k ≡ Refused (Clash (type_of x) t)) → FailsFor w (IsNoLabel t x)
other_label t x f w i n h =
    part_told f w _ i
    (fails_weaker f _ _ (λ k e. subst (λ (j : Cause). IsNoLabel t x (ByPart j)) (sym e) (labels.other_type n)) h)
