-- Operands that move, one by one, to what is put together in a slot.
use Rattle.std.proofs.Common.{◌≡◌, ℕ, ◌-◌, ◌<◌, ◌≤◌, List, [], ◌∷◌, ◌++◌, length, Option}
use Rattle.std.proofs.Common.{refl, sym, ap, subst, ◌∙◌, arith, inl, inr, ⊎_elim, ◌⊎◌}
use Rattle.std.proofs.lemmas.Bool.{cases_eq, cases_lt}
use Rattle.limbo_meaning.specs.Values.{Value, references, references_in, among}
use Rattle.core_code.specs.Slots.{Slot, Holds, Forms, Slots, empty, slot, put, operands_of, region, placed, slot_names}
use Rattle.core_code.specs.Code.{Instr}
use Rattle.core_code.proofs.Names.{names_put, long_placed, placed_below, names_in_join}
use Rattle.core_follows.specs.Drops.{IsWhole, Between, Beside, Holding}
use Rattle.core_follows.specs.Stands.{SlotsName}
use Rattle.core_follows.proofs.Slots.{put_same, put_other, put_long, name_same, among_join, region_size, placed_region, placed_above}
use Rattle.core_follows.proofs.Drops.{dropping_kept}
use Rattle.core_follows.proofs.Holding.{holding_none, holding_more}
use Rattle.core_follows.proofs.Nodes.{AllBetween, AllHold, DiffersFrom, hold_same, hold_more, between_wide, between_more}

-- ---- slots among others

abbrev pub In : ℕ → List ℕ → Type 0
In d [] = ⊥
In d (s ∷ ss) = (d ≡ s) ⊎ In d ss

pub in_or : (d : ℕ) (ss : List ℕ) → In d ss ⊎ DiffersFrom d ss
in_or d [] = inr tt
in_or d (s ∷ ss) = ⊎_elim
    (λ (e : d ≡ s). inl (inl e))
    (λ (e : d ≡ s → ⊥). ⊎_elim (λ (h : In d ss). inl (inr h)) (λ (h : DiffersFrom d ss). inr (e, h)) (in_or d ss))
    (cases_eq d s)

pub in_between : (lo hi d : ℕ) (ss : List ℕ) → AllBetween lo hi ss → In d ss → Between lo hi d
in_between lo hi d [] b h = absurd h
in_between lo hi d (s ∷ ss) b h = elim h [
  | inl e ↦ (let x = b.0.0 in omega (arith, x, e), let y = b.0.1 in omega (arith, y, e))
  | inr i ↦ in_between lo hi d ss b.1 i
]

in_more : (d s : ℕ) (ss : List ℕ) → In d (ss ++ (s ∷ [])) → In d ss ⊎ (d ≡ s)
in_more d s [] h = elim h [ inl e ↦ inr e | inr i ↦ absurd i ]
in_more d s (r ∷ ss) h = elim h [
  | inl e ↦ inl (inl e)
  | inr i ↦ ⊎_elim (λ (x : In d ss). inl (inr x)) (λ (x : d ≡ s). inr x) (in_more d s ss i)
]

differs_more : (d s : ℕ) (ss : List ℕ) → DiffersFrom d (ss ++ (s ∷ [])) → DiffersFrom d ss × (d ≡ s → ⊥)
differs_more d s [] h = (tt, h.0)
differs_more d s (r ∷ ss) h = let x = differs_more d s ss h.1 in ((h.0, x.0), x.1)

pub out_of : (lo hi d : ℕ) (ss : List ℕ) → Beside lo hi d → AllBetween lo hi ss → DiffersFrom d ss
out_of lo hi d [] o b = tt
out_of lo hi d (r ∷ ss) o b = (
  (λ e. absurd (elim o [ inl y ↦ (let z = b.0.0 in omega (arith, y, z, e)) | inr y ↦ (let z = b.0.1 in omega (arith, y, z, e)) ])),
  out_of lo hi d ss o b.1,
)

-- ---- slots of which some are others'

-- The slots but for those from one on and below another, which are as other slots say.
abbrev pub graft : Slots → Slots → (from to : ℕ) → Slots
graft slots others a b = placed slots a (region others a (b - a))

pub graft_long : (slots others : Slots) (a b : ℕ) → length (graft slots others a b) ≡ length slots
graft_long slots others a b = long_placed slots a (region others a (b - a))

pub graft_in : (slots others : Slots) (a b s : ℕ) → b ≤ length slots → a ≤ s → s < b → slot (graft slots others a b) s ≡ slot others s
graft_in slots others a b s l p q = placed_region slots others a (b - a) s (omega arith) p (omega arith)

pub graft_out : (slots others : Slots) (a b s : ℕ) → a ≤ b → Beside a b s → slot (graft slots others a b) s ≡ slot slots s
graft_out slots others a b s l o =
    let e = region_size others a (b - a) in
    elim o [
      | inl x ↦ placed_below slots a s (region others a (b - a)) x
      | inr x ↦ placed_above slots a (region others a (b - a)) s (omega arith)
    ]

-- ---- operands that are there

-- These slots are like ones in which each operand still stands in its slot, behind their evaluation: but those slots are empty, and the
-- operands are there in the slot in which they are put together.
pub record Formed (before still slots : Slots) (lo cur mid : ℕ) (ss : List ℕ) (vs : List Value) (ds : List Instr)
    (got : List (Option ℕ)) : Type 0 where
  pub holding : Holding before still lo cur ds got
  pub held : AllHold still ss vs
  pub between : AllBetween lo cur ss
  pub long : length slots ≡ length still
  pub others : (s : ℕ) → (s ≡ mid → ⊥) → DiffersFrom s ss → slot slots s ≡ slot still s
  pub gone : (s : ℕ) → In s ss → slot slots s ≡ empty
  pub forms : operands_of (slot slots mid) ≡ vs
  pub names : (n : ℕ) → slot_names (slot slots mid) n ≡ among n (references_in vs)

pub formed_none : (slots : Slots) (lo mid : ℕ) → ((n : ℕ) → slot_names (slot slots mid) n ≡ 0) → IsWhole (slot slots mid)
    → Formed slots slots slots lo lo mid [] [] [] []
formed_none slots lo mid z w = record {
  holding = holding_none slots lo;
  held = tt;
  between = tt;
  long = refl;
  others = λ s e d. refl;
  gone = λ s i. absurd i;
  forms = w;
  names = z;
}

pub formed_as : (before still slots : Slots) (lo cur mid : ℕ) (ss ss' : List ℕ) (vs vs' : List Value) (ds ds' : List Instr)
    (got got' : List (Option ℕ)) → ss ≡ ss' → vs ≡ vs' → ds ≡ ds' → got ≡ got' → Formed before still slots lo cur mid ss vs ds got
    → Formed before still slots lo cur mid ss' vs' ds' got'
formed_as before still slots lo cur mid ss ss' vs vs' ds ds' got got' e1 e2 e3 e4 f =
    subst (λ (x : List ℕ). Formed before still slots lo cur mid x vs' ds' got') e1
    (subst (λ (x : List Value). Formed before still slots lo cur mid ss x ds' got') e2
    (subst (λ (x : List Instr). Formed before still slots lo cur mid ss vs x got') e3
    (subst (λ (x : List (Option ℕ)). Formed before still slots lo cur mid ss vs ds x) e4 f)))

abbrev pub moved : Slots → (into from : ℕ) → List Value → Slots
moved slots into from vs = put (put slots from empty) into (Forms vs)

-- One more is evaluated, and moves.
pub formed_more : (before still slots slots' : Slots) (lo cur next mid s : ℕ) (ss : List ℕ) (vs : List Value) (v : Value)
    (ds es : List Instr) (got got' : List (Option ℕ)) → lo ≤ cur → cur ≤ next → next ≤ mid → mid < length slots
    → Formed before still slots lo cur mid ss vs ds got → Holding slots slots' cur next es got' → slot slots' s ≡ Holds v
    → Between cur next s
    → Formed before (graft still slots' cur next) (moved slots' mid s (vs ++ (v ∷ []))) lo next mid (ss ++ (s ∷ [])) (vs ++ (v ∷ []))
    (ds ++ es) (got ++ got')
formed_more before still slots slots' lo cur next mid s ss vs v ds es got got' l m q fits f h e b =
    let now = graft still slots' cur next in
    let last = moved slots' mid s (vs ++ (v ∷ [])) in
    let long1 = f.long in
    let long2 = h.long in
    let in_still : next ≤ length still = omega arith in
    let inside : (d : ℕ) → cur ≤ d → d < next → slot now d ≡ slot slots' d = λ d x y. graft_in still slots' cur next d in_still x y in
    let outside : (d : ℕ) → Beside cur next d → slot now d ≡ slot still d = λ d o. graft_out still slots' cur next d m o in
    let as_still : (d : ℕ) → cur ≤ d → d < next → slot slots d ≡ slot still d = λ d x y.
    f.others d (λ z. absurd (omega (arith, z, y, q))) (out_of lo cur d ss (inr x) f.between) in
    let as_slots : (d : ℕ) → (d ≡ mid → ⊥) → (d ≡ s → ⊥) → slot last d ≡ slot slots' d = λ d x y.
    put_other (put slots' s empty) mid d (Forms (vs ++ (v ∷ []))) x ∙ put_other slots' s d empty y in
    let more : Holding still now cur next es got' = record {
      long = graft_long still slots' cur next;
      same = outside;
      whole = λ d w. ⊎_elim
          (λ (x : d < cur). ap operands_of (outside d (inl x)) ∙ w)
          (λ (x : cur ≤ d). ⊎_elim
          (λ (y : d < next). ap operands_of (inside d x y) ∙ h.whole d (ap operands_of (as_still d x y) ∙ w))
          (λ (y : next ≤ d). ap operands_of (outside d (inr y)) ∙ w)
          (cases_lt d next))
          (cases_lt d cur);
      dropping = dropping_kept (Between cur next) slots' now es got' h.within (λ d x. inside d x.0 x.1) h.dropping;
      within = h.within;
      names = name_same slots' now cur next got' inside h.names;
    } in
    record {
      holding = holding_more before still now lo cur next ds es got got' l m f.holding more;
      held = hold_more now ss (s ∷ []) vs (v ∷ [])
          (hold_same still now lo cur ss vs f.between (λ d x. outside d (inl x.1)) f.held) (inside s b.0 b.1 ∙ e, tt);
      between = between_more lo next ss (s ∷ []) (between_wide lo cur lo next ss (omega arith) m f.between)
          ((let x = b.0 in omega arith, b.1), tt);
      long = put_long (put slots' s empty) mid (Forms (vs ++ (v ∷ []))) ∙ put_long slots' s empty ∙ h.long ∙ f.long
          ∙ sym (graft_long still slots' cur next);
      others = λ d x y.
          let z = differs_more d s ss y in
          as_slots d x z.1 ∙ ⊎_elim
          (λ (o : d < cur). h.same d (inl o) ∙ f.others d x z.0 ∙ sym (outside d (inl o)))
          (λ (o : cur ≤ d). ⊎_elim
          (λ (p : d < next). sym (inside d o p))
          (λ (p : next ≤ d). h.same d (inr p) ∙ f.others d x z.0 ∙ sym (outside d (inr p)))
          (cases_lt d next))
          (cases_lt d cur);
      gone = λ d i. ⊎_elim
          (λ (x : In d ss).
          let y = in_between lo cur d ss f.between x in
          as_slots d (λ z. absurd (let w = y.1 in omega (arith, w, z, m, q))) (λ z. absurd (let w = y.1 in let u = b.0 in omega
          (arith, w, z, u)))
          ∙ h.same d (inl y.1) ∙ f.gone d x)
          (λ (x : d ≡ s). subst (λ (r : ℕ). slot last r ≡ empty) (sym x)
          (put_other (put slots' s empty) mid s (Forms (vs ++ (v ∷ []))) (λ z. absurd (let w = b.1 in omega (arith, w, z, q)))
          ∙ put_same slots' s empty (let w = b.1 in omega arith)))
          (in_more d s ss i);
      forms = ap operands_of (put_same (put slots' s empty) mid (Forms (vs ++ (v ∷ [])))
          (let w = put_long slots' s empty in omega arith));
      names = λ n. ap (λ (x : Slot). slot_names x n) (put_same (put slots' s empty) mid (Forms (vs ++ (v ∷ [])))
          (let w = put_long slots' s empty in omega arith));
    }

-- What is named stays named.
pub moved_names : (slots : Slots) (into from : ℕ) (vs : List Value) (v : Value) (held : List (Option ℕ)) → into < length slots
    → from < length slots → (into ≡ from → ⊥) → slot slots from ≡ Holds v
    → ((n : ℕ) → slot_names (slot slots into) n ≡ among n (references_in vs)) → SlotsName slots held
    → SlotsName (moved slots into from (vs ++ (v ∷ []))) held
moved_names slots into from vs v held li lf ne e z names n =
    let a1 = names_put n slots from empty lf in
    let a2 = names_put n (put slots from empty) into (Forms (vs ++ (v ∷ []))) (let k = put_long slots from empty in omega arith) in
    let a3 = ap (λ (x : Slot). slot_names x n) (put_other slots from into empty ne) in
    let a4 = ap (λ (x : Slot). slot_names x n) e in
    let a5 = z n in
    let a6 = names_in_join n vs (v ∷ []) in
    let a7 = among_join n (references v) [] in
    let a8 = names n in
    omega arith
