-- Nodes of each kind, connectives and updates go well.
use Rattle.std.proofs.Common.{◌≡◌, ℕ, suc, ◌+◌, ◌<◌, ◌≤◌, Bool, true, false, List, [], ◌∷◌, ◌++◌, length, Option, Some, None}
use Rattle.std.proofs.Common.{refl, sym, ap, subst, ◌∙◌, arith, inl, inr, append-nil, length-append}
use Rattle.std.specs.Prelude.{slice_get, if◌then◌else◌}
use Rattle.limbo_types.specs.Types as ty
use Rattle.limbo_types.specs.Types.{Ty}
use Rattle.limbo_layout.specs.Adts.{Def}
use Rattle.limbo_typed.specs.Fitting.{Stands, AllStand, Gives}
use Rattle.limbo_typed.specs.declared.operation.Connective.{Connective}
use Rattle.limbo_typed.specs.declared.operation.Operation.{Operation}
use Rattle.limbo_typed.specs.declared.operation.Given.{Given}
use Rattle.limbo_typed.specs.declared.operation.Given.TheVariants as given
use Rattle.limbo_meaning.specs.Operations.{item_of}
use Rattle.limbo_meaning.specs.Places.{Way}
use Rattle.limbo_meaning.specs.Trees as tree
use Rattle.limbo_meaning.specs.Trees.{Work, Operate, Node, Terms, NoTerms, MoreTerms}
use Rattle.limbo_meaning.specs.Evaluation.{work_refers, passes_on}
use Rattle.limbo_kept.specs.Operating.{HasRoom}
use Rattle.limbo_kept.specs.Processes.{AllHaveRooms}
use Rattle.limbo_kept.specs.Trees.{Scope, WayIs, WorkIs}
use Rattle.core_code.specs.Code.{Instr, Give, Write, Skip, Truth, Mirror}
use Rattle.core_code.specs.Terms.{Lowered, LoweredAll, count_of, drops_from, drops_if, gives, gathers, node, type_of, type_at, types_in}
use Rattle.core_code.specs.Terms.{first_of, picks, given_slot}
use Rattle.core_follows.specs.Drops.{Between, Beside, AllTouch, HasAt}
use Rattle.core_follows.specs.Handled.{Suits, count}
use Rattle.core_follows.proofs.Drops.{touch_more}
use Rattle.core_follows.proofs.Holding.{has_front, has_back}
use Rattle.core_follows.proofs.Static.{touch_if, touch_wide}
use Rattle.core_follows.proofs.Valued.{AllValued}
use Rattle.core_typing.specs.Held.{Of, Decided, Slots, slot, put, noted, type_held}
use Rattle.core_typing.specs.Needs.{IsA, IsClean, IsCleanIf}
use Rattle.core_typing.specs.Written.{told}
use Rattle.core_typing.specs.Going.{IsTold, got_by}
use Rattle.core_typing.specs.Trees.{TakesSo}
use Rattle.core_typing.specs.Runs.{VariantsAreFew, NodeRuns}
use Rattle.core_typing.proofs.Telling.{Gave, gave, gave_to, none_into, told_same, told_over, told_at, Quiet}
use Rattle.core_typing.proofs.Going.{put_same, put_other, put_long, same_place, goes_one, goes_to, two_places}
use Rattle.core_typing.proofs.Cleaning.{clean_same, put_clean}
use Rattle.core_typing.proofs.Drops.{Lets, none, enters, passes, lets_same, lets_wide, lets_more, lets_from, lets_if}
use Rattle.core_typing.proofs.Standing.{itself, is_on, these_on, these_same, all_stand_on}
use Rattle.core_typing.proofs.Nodes.{GoesBy, AllBy, lets_put, lets_up, got_none, got_below, touch_row, gives_with, gives_goes}
use Rattle.core_typing.proofs.Nodes.{AllWith, all_plain, writes_some, channel_goes, assign_goes, copy_goes, link_goes, pick_goes}
use Rattle.core_typing.proofs.Nodes.{all_told_in, root_told, are_below}
use Rattle.core_typing.proofs.Comparing.{NilsClean, compares_so, updates_so}
use Rattle.core_typing.proofs.Placing.{EachBy, gather_goes, call_goes, print_goes}

-- ---- what was decided

noted_same : (h : Bool) (slots : Slots) (d : ℕ) (b : Bool) (r : ℕ) → (r ≡ d → ⊥)
    → slot (noted slots (if h then Some d else None) b) r ≡ slot slots r
noted_same true slots d b r e = put_other slots d r (Decided b) e
noted_same false slots d b r e = refl

noted_long : (h : Bool) (slots : Slots) (d : ℕ) (b : Bool) → length (noted slots (if h then Some d else None) b) ≡ length slots
noted_long true slots d b = put_long slots d (Decided b)
noted_long false slots d b = refl

noted_there : (h : Bool) (slots : Slots) (d : ℕ) (b : Bool) → d < length slots → h ≡ true
    → slot (noted slots (if h then Some d else None) b) d ≡ Decided b
noted_there true slots d b l e = put_same slots d (Decided b) l
noted_there false slots d b l e = absurd cc

noted_clean : (h : Bool) (slots : Slots) (d : ℕ) (b : Bool) (r : ℕ) → IsClean (slot slots r)
    → IsClean (slot (noted slots (if h then Some d else None) b) r)
noted_clean true slots d b r c = put_clean slots d r (Decided b) c (λ e. tt)
noted_clean false slots d b r c = c

clean_if : (h : Bool) (slots : Slots) (d : ℕ) → IsClean (slot slots d) → IsCleanIf slots (if h then Some d else None)
clean_if true slots d c = c
clean_if false slots d c = tt

mirror_passes : (defs : List Def) (lo hi : ℕ) (tells : ℕ → Option Ty) (h : Bool) (slots : Slots) (d : ℕ) (ds : List Instr)
    → (h ≡ true → slot slots d ≡ Decided true) → ((r : ℕ) → lo ≤ r → r < hi → IsClean (slot slots r))
    → Lets defs lo hi tells slots (drops_if h (Mirror d (length ds) ∷ ds))
mirror_passes defs lo hi tells true slots d ds e c = passes d (length ds) ds [] (e refl) (sym (append-nil ds)) refl (none c)
mirror_passes defs lo hi tells false slots d ds e c = none c

mirror_enters : (defs : List Def) (lo hi : ℕ) (tells : ℕ → Option Ty) (h : Bool) (slots : Slots) (d : ℕ) (ds : List Instr)
    → (h ≡ true → slot slots d ≡ Decided false) → (h ≡ false → ds ≡ []) → Lets defs lo hi tells slots ds
    → Lets defs lo hi tells slots (drops_if h (Mirror d (length ds) ∷ ds))
mirror_enters defs lo hi tells true slots d ds e f x = enters d (length ds) (e refl) x
mirror_enters defs lo hi tells false slots d ds e f x = subst (Lets defs lo hi tells slots) (f refl) x

module _ (s : Scope) (answer : Ty) (code : List Instr) where
  first_at : (ts : Terms) → type_at s.adts 0 ts ≡ first_of s.adts (types_in s.adts ts)
  first_at NoTerms = refl
  first_at (MoreTerms t ts) = refl

  pub node_goes : VariantsAreFew s.adts → (lo : ℕ) (t : Ty) (o : Work) (ts : Terms) (us : List Ty) (u : Ty) (l : LoweredAll) → lo ≤ l.free
      → AllTouch (Between lo l.free) l.drops → AllValued lo l.free l.drops l.values → length l.values ≡ count ts
      → Suits s.adts t o ts → WorkIs s t o us u → AllStand (types_in s.adts ts) us → TakesSo (types_in s.adts ts) o → NodeRuns s.adts o ts
      → AllWith s answer code (λ after. NilsClean ts after l.values) lo l (types_in s.adts ts)
      → EachBy s answer code lo l.free l.each l.drops l.values (types_in s.adts ts)
      → AllHaveRooms s.adts (types_in s.adts ts)
      → GoesBy s answer code lo (node s.adts (types_in s.adts ts) t o l) (type_of s.adts (Node t o ts))
  node_goes few lo t (Operate o) ts us u l p w vd c (inl h) is st f runs all each rooms =
      subst (λ (b : Bool). GoesBy s answer code lo (if b then gathers s.adts t o l else gives s.adts t (Operate o) l) t) (sym h)
      (gives_with s answer code (λ after. NilsClean ts after l.values) lo t (Operate o) l (types_in s.adts ts) p w
      (λ pc after a agree c nils. (
        (
          us,
          these_on after l.values (types_in s.adts ts) us a st,
          (is.0, is.1, is.2, inl refl),
          c,
          are_below lo l.free l.drops l.values vd,
        ),
        (h, compares_so s o ts us t after l.values runs is.0 st a nils),
      )) all)
  node_goes few lo t (Operate o) ts us u l p w vd c (inr h) is st f runs all each rooms =
      subst (λ (b : Bool). GoesBy s answer code lo (if b then gathers s.adts t o l else gives s.adts t (Operate o) l) t) (sym h.0)
      (gather_goes s answer code few lo t o l (types_in s.adts ts) us p w vd h.0 h.1 st (is.0, is.1, is.2, inl refl) each)
  node_goes few lo t (tree.Literal k) ts us u l p w vd c h is st f runs all each rooms =
      gives_goes s answer code lo t (tree.Literal k) l (types_in s.adts ts) p w
      (λ pc after a agree c. (
        (
          us,
          these_on after l.values (types_in s.adts ts) us a st,
          (is.0, is.1, is.2, inl refl),
          c,
          are_below lo l.free l.drops l.values vd,
        ),
        tt,
      )) (all_plain s answer code (λ after. NilsClean ts after l.values) lo l (types_in s.adts ts) all)
  node_goes few lo t tree.Nil ts us u l p w vd c h is st f runs all each rooms =
      gives_goes s answer code lo t tree.Nil l (types_in s.adts ts) p w
      (λ pc after a agree c. (
        (
          us,
          these_on after l.values (types_in s.adts ts) us a st,
          (is.0, is.1, inl refl),
          c,
          are_below lo l.free l.drops l.values vd,
        ),
        tt,
      )) (all_plain s answer code (λ after. NilsClean ts after l.values) lo l (types_in s.adts ts) all)
  node_goes few lo t (tree.Read r) ts us u l p w vd c h is st f runs all each rooms =
      gives_goes s answer code lo t (tree.Read r) l (types_in s.adts ts) p w
      (λ pc after a agree c.
      let those = these_on after l.values (types_in s.adts ts) us a st in (
        (us, those, (is.0, is.1, inl refl), c, are_below lo l.free l.drops l.values vd),
        root_told s (told code pc) after r.root l.values us is.0.root agree those is.0.begins,
      )) (all_plain s answer code (λ after. NilsClean ts after l.values) lo l (types_in s.adts ts) all)
  node_goes few lo t (tree.Sprint ps) ts us u l p w vd c h is st f runs all each rooms = absurd runs
  node_goes few lo t (tree.Assign aims) ts us u l p w vd c h is st f runs all each rooms =
      assign_goes s answer code lo (types_in s.adts ts) t aims ts us is.0 l p h st is.1 is.2 is.3
      (all_plain s answer code (λ after. NilsClean ts after l.values) lo l (types_in s.adts ts) all)
  node_goes few lo t (tree.TakePart k) ts us u l p w vd c h is st f runs all each rooms =
      subst (λ (x : Ty). GoesBy s answer code lo (picks s.adts x t k l) t) (first_at ts)
      (pick_goes s answer code lo t is.0 k ts l us p w vd c h st is.1 is.2 is.3
      (all_plain s answer code (λ after. NilsClean ts after l.values) lo l (types_in s.adts ts) all))
  node_goes few lo t tree.Copy ts us u l p w vd c h is st f runs all each rooms =
      copy_goes s answer code lo (types_in s.adts ts) t ts us is.0 l p h st is.1 is.2 f
      (all_plain s answer code (λ after. NilsClean ts after l.values) lo l (types_in s.adts ts) all)
  node_goes few lo t tree.Link ts us u l p w vd c h is st f runs all each rooms =
      link_goes s answer code lo (types_in s.adts ts) t is.0 l (types_in s.adts ts) us p w vd is.1 is.2 st is.3
      (all_plain s answer code (λ after. NilsClean ts after l.values) lo l (types_in s.adts ts) all)
  node_goes few lo t tree.NewChannel ts us u l p w vd c h is st f runs all each rooms =
      channel_goes s answer code lo (types_in s.adts ts) t l (types_in s.adts ts) is.0 p w is.1
      (all_plain s answer code (λ after. NilsClean ts after l.values) lo l (types_in s.adts ts) all)
  node_goes few lo t (tree.Call k) ts us u l p w vd c h is st f runs all each rooms =
      call_goes s answer code lo t k l.free l.code l.each l.drops l.values (types_in s.adts ts) p w vd each rooms
      (is.0, is.1, all_stand_on (types_in s.adts ts) us is.0.takes st is.2, is.3, inl refl)
  node_goes few lo t (tree.Print ps) ts us u l p w vd c h is st f runs all each rooms =
      subst (λ (x : Ty). GoesBy s answer code lo (node s.adts (types_in s.adts ts) x (tree.Print ps) l) x) (sym h)
      (print_goes s answer code lo ps l.free l.code l.each l.drops l.values (types_in s.adts ts) p w vd each rooms f)

  -- ---- connectives

  abbrev pub lazy_code : (h : Bool) → Connective → (a b : Lowered) → List Instr
  lazy_code h c a b =
      a.code ++ Skip c b.free (if h then Some a.free else None) a.value (suc (length b.code)) ∷ b.code ++ Truth b.free b.value ∷ []

  abbrev pub lazy_drops : (h : Bool) → (a b : Lowered) → List Instr
  lazy_drops h a b = a.drops ++ drops_if h (Mirror a.free (length b.drops) ∷ b.drops)

  pub lazy_goes : (h : Bool) (c : Connective) (lo : ℕ) (a b : Lowered) (ta tb : Ty) → lo ≤ a.free → suc a.free ≤ b.free
      → AllTouch (Between lo a.free) a.drops → AllTouch (Between (suc a.free) b.free) b.drops
      → ((r : ℕ) → Beside (suc a.free) b.free r → Quiet r b.code) → (h ≡ false → b.drops ≡ []) → GoesBy s answer code lo a ta
      → GoesBy s answer code (suc a.free) b tb → Stands ta ty.Int → Stands tb ty.Int
      → GoesBy s answer code lo
      (record { code = lazy_code h c a b; drops = lazy_drops h a b; value = b.free; free = suc b.free }) ty.Int
  lazy_goes h c lo a b ta tb p q wa wb quiet unheld ga gb sa sb pc slots n has fits clean k =
      let skip = Skip c b.free (if h then Some a.free else None) a.value (suc (length b.code)) in
      let truth = Truth b.free b.value in
      let has1 = has_front code pc (a.code ++ (skip ∷ b.code)) (truth ∷ []) has in
      let has2 = has_back code pc (a.code ++ (skip ∷ b.code)) (truth ∷ []) has in
      let has3 = has_back code pc a.code (skip ∷ b.code) has1 in
      let e1 = length-append a.code (skip ∷ b.code) in
      let e2 = length-append (a.code ++ (skip ∷ b.code)) (truth ∷ []) in
      let i = Of ty.Int [] in
      let ds = drops_if h (Mirror a.free (length b.drops) ∷ b.drops) in
      let wd : AllTouch (Between a.free (suc b.free)) ds = touch_if (Between a.free (suc b.free)) h _
      ((omega arith, omega arith), touch_wide (suc a.free) b.free a.free (suc b.free) b.drops (omega arith) (omega arith) wb) in
      ga pc slots n (has_front code pc a.code (skip ∷ b.code) has1) (omega arith) (λ r l m. clean r l (omega arith))
      (λ one left.
      let pc1 : ℕ = pc + length a.code in
      let at_end : ℕ = pc + length (lazy_code h c a b) in
      let at_truth : ℕ = pc + length (a.code ++ (skip ∷ b.code)) in
      let tells = told code at_end in
      let g = gave_to code at_truth at_end b.free ty.Int truth (omega arith) has2.0 (λ r. refl) in
      let kept : (r : ℕ) → r < a.free → tells r ≡ told code pc1 r = λ r l.
      g.others r (λ e. absurd (omega (arith, e, l, q)))
      ∙ told_at code at_truth (pc1 + suc (length b.code)) r (omega arith)
      ∙ told_over code pc1 r (skip ∷ b.code) has3
      (none_into b.free r ty.Int (λ e. absurd (omega (arith, e, l, q))), quiet r (inl (omega arith))) in
      let long1 = left.long in
      let yes = noted one (if h then Some a.free else None) true in
      let no = noted one (if h then Some a.free else None) false in
      let long_yes = noted_long h one a.free true in
      let long_no = noted_long h one a.free false in
      let passed = put yes b.free i in
      let clean_one : (r : ℕ) → a.free ≤ r → r < suc b.free → IsClean (slot one r) = λ r l m.
      clean_same (slot slots r) (slot one r) (left.same r (inr l)) (clean r (omega (arith, l, p)) m) in
      goes_one s answer code n pc1 one skip has3.0 (
        is_on one a.value ta ty.Int left.is sa,
        clean_one b.free (omega arith) (omega arith),
        clean_if h one a.free (clean_one a.free (omega arith) (omega arith)),
      ) tt
      (two_places s answer code n (suc pc1 + suc (length b.code)) (suc pc1) passed no
      (same_place s answer code n (pc + length (lazy_code h c a b)) (suc pc1 + suc (length b.code)) passed (omega arith)
      (k passed (record {
        long = put_long yes b.free i ∙ long_yes ∙ long1;
        same = λ r d. put_other yes b.free r i
            (λ e. absurd (elim d [ inl y ↦ omega (arith, y, e, p, q) | inr y ↦ omega (arith, y, e) ]))
            ∙ noted_same h one a.free true r
            (λ e. absurd (elim d [ inl y ↦ omega (arith, y, e, p) | inr y ↦ omega (arith, y, e, q) ]))
            ∙ left.same r (elim d [ inl y ↦ inl y | inr y ↦ inr (omega arith) ]);
        lets = lets_more s.adts tells passed lo a.free (suc b.free) a.drops ds wa wd
            (lets_same s.adts lo a.free (told code pc1) tells one passed a.drops wa (put_long yes b.free i ∙ long_yes)
            (λ r d. put_other yes b.free r i (λ e. absurd (let y = d.1 in omega (arith, y, e, q)))
            ∙ noted_same h one a.free true r (λ e. absurd (let y = d.1 in omega (arith, y, e)))) (λ r d. kept r d.1) left.lets)
            (mirror_passes s.adts a.free (suc b.free) tells h passed a.free b.drops
            (λ e. put_other yes b.free a.free i (λ e. absurd (omega (arith, e, q)))
            ∙ noted_there h one a.free true (omega arith) e)
            (λ r l m. put_clean yes b.free r i (noted_clean h one a.free true r (clean_one r l m)) (λ e. refl)));
        is = (ty.Int, ap type_held (put_same yes b.free i (omega arith)), itself ty.Int);
        agrees = (ty.Int, ap type_held (put_same yes b.free i (omega arith)), g.there);
      })))
      (gb (suc pc1) no n has3.1 (omega arith) (λ r l m. noted_clean h one a.free false r (clean_one r (omega arith) (omega arith)))
      (λ two left2.
      let pc2 : ℕ = suc pc1 + length b.code in
      let long2 = left2.long in
      let last = put two b.free i in
      let to_truth : pc + length (a.code ++ (skip ∷ b.code)) ≡ pc2 = omega arith in
      goes_to s answer code n pc2 (suc pc2) two last truth
      (subst (λ (z : ℕ). slice_get code z ≡ Some truth) to_truth has2.0) (
        is_on two b.value tb ty.Int left2.is sb,
        clean_same (slot no b.free) (slot two b.free) (left2.same b.free (inr (omega arith)))
            (noted_clean h one a.free false b.free (clean_one b.free (omega arith) (omega arith))),
      ) tt refl
      (same_place s answer code n (pc + length (lazy_code h c a b)) (suc pc2) last (omega arith)
      (k last (record {
        long = put_long two b.free i ∙ long2 ∙ long_no ∙ long1;
        same = λ r d. put_other two b.free r i
            (λ e. absurd (elim d [ inl y ↦ omega (arith, y, e, p, q) | inr y ↦ omega (arith, y, e) ]))
            ∙ left2.same r (elim d [ inl y ↦ inl (omega arith) | inr y ↦ inr (omega arith) ])
            ∙ noted_same h one a.free false r
            (λ e. absurd (elim d [ inl y ↦ omega (arith, y, e, p) | inr y ↦ omega (arith, y, e, q) ]))
            ∙ left.same r (elim d [ inl y ↦ inl y | inr y ↦ inr (omega arith) ]);
        lets = lets_more s.adts tells last lo a.free (suc b.free) a.drops ds wa wd
            (lets_same s.adts lo a.free (told code pc1) tells one last a.drops wa (put_long two b.free i ∙ long2 ∙ long_no)
            (λ r d. put_other two b.free r i (λ e. absurd (let y = d.1 in omega (arith, y, e, q)))
            ∙ left2.same r (inl (let y = d.1 in omega (arith, y)))
            ∙ noted_same h one a.free false r (λ e. absurd (let y = d.1 in omega (arith, y, e)))) (λ r d. kept r d.1) left.lets)
            (mirror_enters s.adts a.free (suc b.free) tells h last a.free b.drops
            (λ e. put_other two b.free a.free i (λ e. absurd (omega (arith, e, q))) ∙ left2.same a.free (inl (omega arith))
            ∙ noted_there h one a.free false (omega arith) e) unheld
            (lets_wide s.adts (suc a.free) (suc b.free) a.free (suc b.free) tells last b.drops
            (λ r l m d. put_clean two b.free r i
            (let e : r ≡ a.free = elim d [ inl y ↦ omega (arith, y, l) | inr y ↦ absurd (omega (arith, y, m)) ] in
            clean_same (slot no r) (slot two r) (left2.same r (inl (omega (arith, e))))
            (noted_clean h one a.free false r (clean_one r l m)))
            (λ e. refl))
            (lets_up s.adts (told code pc2) tells two (suc a.free) b.free ty.Int b.drops
            (gave_to code pc2 at_end b.free ty.Int truth (omega arith)
            (subst (λ (z : ℕ). slice_get code z ≡ Some truth) to_truth has2.0) (λ r. refl)) (omega arith) wb left2.lets)));
        is = (ty.Int, ap type_held (put_same two b.free i (omega arith)), itself ty.Int);
        agrees = (ty.Int, ap type_held (put_same two b.free i (omega arith)), g.there);
      })))))))

  -- ---- updates

  abbrev pub update_code : Operation → Ty → Way → (a b : LoweredAll) → List Instr
  update_code o t w a b =
      a.code ++ Give t (tree.Read w) a.free a.values ∷ b.code ++
      (Give t (Operate o) b.free (a.free ∷ b.values) ∷ Write t w a.values [] b.free ∷ [])

  abbrev pub update_drops : Operation → Ty → (a b : LoweredAll) → List Instr
  update_drops o t a b =
      a.drops ++ (drops_from a.free 0 (count_of s.adts t) ++
      (b.drops ++ drops_if (work_refers s.adts t (Operate o)) (drops_from b.free 0 (count_of s.adts t))))

  given_is : (g : Given) (slots : Slots) (x y : ℕ) (t : Ty) → type_held (slot slots x) ≡ Some t
      → type_held (slot slots y) ≡ Some t
      → IsA slots (given_slot s.adts g x y) t
  given_is given.Old slots x y t e f = (t, e, itself t)
  given_is given.New slots x y t e f = (t, f, itself t)

  given_told : (tells : ℕ → Option Ty) (g : Given) (slots : Slots) (x y : ℕ) (t : Ty) → IsTold tells slots x → IsTold tells slots y
      → IsTold tells slots (given_slot s.adts g x y)
  given_told tells given.Old slots x y t e f = e
  given_told tells given.New slots x y t e f = f

  pub update_goes : (o : Operation) (g : Given) (t : Ty) (w : Way) (lo : ℕ) (a b : LoweredAll) (Ps Qs ps qs : List Ty) → lo ≤ a.free
      → suc a.free ≤ b.free → AllTouch (Between lo a.free) a.drops → AllTouch (Between (suc a.free) b.free) b.drops
      → ((r : ℕ) → Beside (suc a.free) b.free r → Quiet r b.code) → AllValued lo a.free a.drops a.values
      → AllValued (suc a.free) b.free b.drops b.values → AllStand Ps ps → AllStand Qs qs → passes_on o ≡ false → WayIs s w ps t
      → Gives s.adts o (t ∷ qs) t
      → HasRoom s.adts t → HasRoom s.adts (item_of t) → AllBy s answer code lo a Ps → AllBy s answer code (suc a.free) b Qs
      → GoesBy s answer code lo (record {
        code = update_code o t w a b;
        drops = update_drops o t a b;
        value = given_slot s.adts g a.free b.free;
        free = suc b.free;
      }) t
  update_goes o g t w lo a b Ps Qs ps qs p q wa wb quiet va vb sp sq plain way gives room item ga gb pc slots n has fits clean k =
      let read = Give t (tree.Read w) a.free a.values in
      let operate = Give t (Operate o) b.free (a.free ∷ b.values) in
      let write = Write t w a.values [] b.free in
      let has1 = has_front code pc (a.code ++ (read ∷ b.code)) (operate ∷ write ∷ []) has in
      let has2 = has_back code pc (a.code ++ (read ∷ b.code)) (operate ∷ write ∷ []) has in
      let has3 = has_back code pc a.code (read ∷ b.code) has1 in
      let e1 = length-append a.code (read ∷ b.code) in
      let e2 = length-append (a.code ++ (read ∷ b.code)) (operate ∷ write ∷ []) in
      let i = Of t (got_by s.adts t (tree.Read w)) in
      let j = Of t (got_by s.adts t (Operate o)) in
      let own = drops_if (work_refers s.adts t (Operate o)) (drops_from b.free 0 (count_of s.adts t)) in
      let olds = drops_from a.free 0 (count_of s.adts t) in
      ga pc slots n (has_front code pc a.code (read ∷ b.code) has1) (omega arith) (λ r l m. clean r l (omega arith))
      (λ one left.
      let pc1 : ℕ = pc + length a.code in
      let long1 = left.long in
      let next = put one a.free i in
      let long_next = put_long one a.free i in
      let clean_one : (r : ℕ) → a.free ≤ r → r < suc b.free → IsClean (slot one r) = λ r l m.
      clean_same (slot slots r) (slot one r) (left.same r (inr l)) (clean r (omega (arith, l, p)) m) in
      let clean_next : (r : ℕ) → suc a.free ≤ r → r < suc b.free → IsClean (slot next r) = λ r l m.
      clean_same (slot one r) (slot next r) (put_other one a.free r i (λ e. absurd (omega (arith, e, l)))) (clean_one r (omega arith) m) in
      goes_to s answer code n pc1 (suc pc1) one next read has3.0 (
        ps,
        these_on one a.values Ps ps left.these sp,
        (way, room, inl refl),
        clean_one a.free (omega arith) (omega arith),
        are_below lo a.free a.drops a.values va,
      )
      (root_told s (told code pc1) one w.root a.values ps way.root left.agree (these_on one a.values Ps ps left.these sp) way.begins) refl
      (gb (suc pc1) next n has3.1 (omega arith) (λ r l m. clean_next r l (omega arith))
      (λ two left2.
      let pc2 : ℕ = suc pc1 + length b.code in
      let to_operate : pc + length (a.code ++ (read ∷ b.code)) ≡ pc2 = omega arith in
      let has4 = subst (λ (z : ℕ). HasAt code z (operate ∷ write ∷ [])) to_operate has2 in
      let long2 = left2.long in
      let three = put two b.free j in
      let old : slot two a.free ≡ i = left2.same a.free (inl (omega arith)) ∙ put_same one a.free i (omega arith) in
      let old3 : slot three a.free ≡ i = put_other two b.free a.free j (λ e. absurd (omega (arith, e, q))) ∙ old in
      let new : slot three b.free ≡ j = put_same two b.free j (omega arith) in
      let long3 = put_long two b.free j in
      let t_old = ap type_held old3 in
      let t_new = ap type_held new in
      let below : (r : ℕ) → r < a.free → slot three r ≡ slot one r = λ r l.
      put_other two b.free r j (λ e. absurd (omega (arith, e, q, l))) ∙ left2.same r (inl (omega arith))
      ∙ put_other one a.free r i (λ e. absurd (omega (arith, e, l))) in
      let those = these_same one three lo a.free a.drops a.values Ps va (λ r x y. below r y) left.these in
      let at_end : ℕ = pc + length (update_code o t w a b) in
      let tells = told code at_end in
      let g1 = gave code pc1 a.free t read has3.0 (λ r. refl) in
      let g2 = gave code pc2 b.free t operate has4.0 (λ r. refl) in
      let written : (r : ℕ) → tells r ≡ told code (suc pc2) r = λ r.
      told_at code at_end (suc (suc pc2)) r (omega arith) ∙ told_same code (suc pc2) r write has4.1.0 refl in
      let g3 : Gave (told code pc2) tells b.free t = record {
        there = written b.free ∙ g2.there;
        others = λ r e. written r ∙ g2.others r e;
      } in
      let over : (r : ℕ) → r < suc a.free → tells r ≡ told code (suc pc1) r = λ r l.
      g3.others r (λ e. absurd (omega (arith, e, q, l))) ∙ told_over code (suc pc1) r b.code has3.1 (quiet r (inl l)) in
      let old_told : tells a.free ≡ Some t = over a.free (omega arith) ∙ g1.there in
      goes_to s answer code n pc2 (suc pc2) two three operate has4.0 (
        t ∷ qs,
        ((t, ap type_held old, itself t), these_on two b.values Qs qs left2.these sq),
        (gives, room, item, inl refl),
        clean_same (slot next b.free) (slot two b.free) (left2.same b.free (inr (omega arith)))
            (clean_next b.free (omega arith) (omega arith)),
        (q, are_below (suc a.free) b.free b.drops b.values vb),
      ) (plain, updates_so s.adts o t qs two (a.free ∷ b.values) gives) refl
      (goes_to s answer code n (suc pc2) (suc (suc pc2)) three three write has4.1.0
      (ps, these_on three a.values Ps ps those sp, way, inl (t, t_new, room, (t, refl, itself t))) (
        (t, t_new, g2.there),
        root_told s (told code (suc pc2)) three w.root a.values ps way.root
            (all_told_in (told code pc1) (told code (suc pc2)) one three lo a.free a.drops a.values va below
            (λ r l. g2.others r (λ e. absurd (omega (arith, e, q, l)))
            ∙ told_over code (suc pc1) r b.code has3.1 (quiet r (inl (omega (arith, l))))
            ∙ g1.others r (λ e. absurd (omega (arith, e, l)))) left.agree)
            (these_on three a.values Ps ps those sp) way.begins,
        writes_some s three b.free t t t [] w ps way (t, t_new, itself t) refl (inl refl),
      ) refl
      (same_place s answer code n (pc + length (update_code o t w a b)) (suc (suc pc2)) three (omega arith)
      (k three (record {
        long = put_long two b.free j ∙ long2 ∙ long_next ∙ long1;
        same = λ r d. put_other two b.free r j
            (λ e. absurd (elim d [ inl y ↦ omega (arith, y, e, p, q) | inr y ↦ omega (arith, y, e) ]))
            ∙ left2.same r (elim d [ inl y ↦ inl (omega arith) | inr y ↦ inr (omega arith) ])
            ∙ put_other one a.free r i
            (λ e. absurd (elim d [ inl y ↦ omega (arith, y, e, p) | inr y ↦ omega (arith, y, e, q) ]))
            ∙ left.same r (elim d [ inl y ↦ inl y | inr y ↦ inr (omega arith) ]);
        lets = lets_more s.adts tells three lo a.free (suc b.free) a.drops _ wa
            (touch_more (Between a.free (suc b.free)) olds _
            (touch_wide a.free (suc a.free) a.free (suc b.free) olds (omega arith) (omega arith) (touch_row a.free 0 (count_of s.adts t)))
            (touch_more (Between a.free (suc b.free)) b.drops own
            (touch_wide (suc a.free) b.free a.free (suc b.free) b.drops (omega arith) (omega arith) wb)
            (touch_wide b.free (suc b.free) a.free (suc b.free) own (omega arith) (omega arith)
            (touch_if (Between b.free (suc b.free)) (work_refers s.adts t (Operate o)) _ (touch_row b.free 0 (count_of s.adts t))))))
            (lets_same s.adts lo a.free (told code pc1) tells one three a.drops wa (long3 ∙ long2 ∙ long_next) (λ r d. below r d.1)
            (λ r d. over r (let y = d.1 in omega (arith, y)) ∙ g1.others r (λ e. absurd (let y = d.1 in omega (arith, y, e)))) left.lets)
            (lets_more s.adts tells three a.free (suc a.free) (suc b.free) olds _ (touch_row a.free 0 (count_of s.adts t))
            (touch_more (Between (suc a.free) (suc b.free)) b.drops own
            (touch_wide (suc a.free) b.free (suc a.free) (suc b.free) b.drops (omega arith) (omega arith) wb)
            (touch_wide b.free (suc b.free) (suc a.free) (suc b.free) own (omega arith) (omega arith)
            (touch_if (Between b.free (suc b.free)) (work_refers s.adts t (Operate o)) _ (touch_row b.free 0 (count_of s.adts t)))))
            (lets_from s.adts tells three a.free 0 (count_of s.adts t) t (got_by s.adts t (tree.Read w)) old3 (omega arith) old_told
            (omega arith) (λ x y. (omega arith, let z = got_below s.adts t (tree.Read w) x y in omega (arith, z))))
            (lets_more s.adts tells three (suc a.free) b.free (suc b.free) b.drops own wb
            (touch_if (Between b.free (suc b.free)) (work_refers s.adts t (Operate o)) _ (touch_row b.free 0 (count_of s.adts t)))
            (lets_put s.adts (told code pc2) tells two (suc a.free) b.free t (got_by s.adts t (Operate o)) b.drops g3 wb left2.lets)
            (lets_if s.adts b.free (suc b.free) tells three (work_refers s.adts t (Operate o)) _
            (λ e r l m. let z : r ≡ b.free = omega arith in
            clean_same j (slot three r) (ap (slot three) z ∙ new) (got_none s.adts t (Operate o) e))
            (lets_from s.adts tells three b.free 0 (count_of s.adts t) t (got_by s.adts t (Operate o)) new (omega arith) g3.there
            (omega arith) (λ x y. (omega arith, let z = got_below s.adts t (Operate o) x y in omega (arith, z)))))));
        is = given_is g three a.free b.free t t_old t_new;
        agrees = given_told tells g three a.free b.free t (t, t_old, old_told) (t, t_new, g3.there);
      })))))))
