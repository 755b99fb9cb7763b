-- The code of typed trees goes well.
use Rattle.std.proofs.Common.{◌≡◌, ℕ, ℤ, suc, ◌+◌, ◌<◌, ◌≤◌, List, [], ◌∷◌, ◌++◌, length, max, Some, None}
use Rattle.std.proofs.Common.{refl, sym, ap, subst, ◌∙◌, arith, inl, inr, ⊎_elim, length-append}
use Rattle.std.proofs.lemmas.Bool.{cases_lt}
use Rattle.std.specs.Prelude.{if◌then◌else◌}
use Rattle.limbo_types.specs.Types as ty
use Rattle.limbo_types.specs.Types.{Ty}
use Rattle.limbo_meaning.specs.Values.{Value, Num, among, references}
use Rattle.limbo_meaning.specs.Trees.{Work, Assign, Term, Evaluated, Node, Lazy, Update, Fill, Terms, NoTerms, MoreTerms, Items, NoItems}
use Rattle.limbo_meaning.specs.Trees.{MoreItems}
use Rattle.limbo_meaning.specs.Evaluation.{may_hold, operands_for}
use Rattle.limbo_kept.specs.Operating.{HasRoom}
use Rattle.limbo_kept.specs.Trees.{Scope, WorkIs, DeclaresFor, TermIs, TermsAre, ItemsAre, RestIs}
use Rattle.core_code.specs.Code.{Instr, Known, Element}
use Rattle.core_code.specs.Terms.{lower, lower_all, lower_items, lower_rest, items_end, rest_end, named, slot_at, writes, type_of}
use Rattle.core_code.specs.Terms.{type_at, types_in}
use Rattle.core_code.specs.Statements.{whole}
use Rattle.core_code.proofs.Used.{term_up, terms_up, items_up, rest_up, end_up}
use Rattle.core_follows.specs.Drops.{Between}
use Rattle.core_follows.specs.Handled as handled
use Rattle.core_follows.specs.Handled.{Suits, Declares, Handled, AllHandled, HandledItems, HandledRest}
use Rattle.core_follows.proofs.Holding.{has_front, has_back}
use Rattle.core_follows.proofs.Static.{drops_within, all_within, items_within, rest_within, values_counted, no_drops}
use Rattle.core_follows.proofs.Valued.{value_stands, values_stand}
use Rattle.core_typing.specs.Held.{Of, slot, put, type_held}
use Rattle.core_typing.specs.Needs.{StandsAs, NamesNothing, IsKnown, AreClean}
use Rattle.core_typing.specs.Written.{type_known, told}
use Rattle.core_typing.specs.Trees.{HasValue, LengthSo, DeclaresSo, Formed, AllFormed, ItemsFormed}
use Rattle.core_typing.specs.Runs.{VariantsAreFew, Runs, AllRun, ItemsRun, RestRuns}
use Rattle.core_typing.specs.Functions.{AnswersAreLaid, TreesGoWell, ValuesGoWell}
use Rattle.core_typing.proofs.Going.{put_same, put_other, put_long, same_place, goes_to}
use Rattle.core_typing.proofs.Telling.{gave, gave_to, told_same, told_over, told_at, writes_quiet, drops_still, term_quiet, terms_quiet}
use Rattle.core_typing.proofs.Telling.{items_quiet, rest_quiet}
use Rattle.core_typing.proofs.Cleaning.{clean_same, put_clean}
use Rattle.core_typing.proofs.Drops.{none, lets_same, lets_told, lets_more, drops_go}
use Rattle.core_typing.proofs.Chains.{drops_untaken}
use Rattle.core_typing.proofs.Standing.{itself, is_on, is_same, is_kept, term_stands, terms_stand, terms_room}
use Rattle.core_typing.proofs.Nodes.{GoesBy, AllWith, all_plain, told_on, all_told_on, declares_go}
use Rattle.core_typing.proofs.Comparing.{NilsClean, with_nil}
use Rattle.core_typing.proofs.Placing.{EachBy}
use Rattle.core_typing.proofs.Expressions.{node_goes, lazy_goes, update_goes}
use Rattle.core_typing.proofs.Filling.{grown_none, grown_on, grown_more, sides, others_go, ElementsGo, fill_goes}

module _ (s : Scope) (answers : AnswersAreLaid s) (few : VariantsAreFew s.adts) (answer : Ty) (code : List Instr) where
  -- ---- what is known

  known_goes : (lo : ℕ) (v : Value) → IsKnown v → NamesNothing v → GoesBy s answer code lo (lower s.adts lo (Evaluated v)) (type_known v)
  known_goes lo v known names pc slots n has fits clean k =
      let i = Of (type_known v) [] in
      let g = gave_to code pc (pc + 1) lo (type_known v) (Known v lo) (omega arith) has.0 (λ r. refl) in
      goes_to s answer code n pc (suc pc) slots (put slots lo i) (Known v lo) has.0
      (known, names, clean lo (omega arith) (omega arith)) tt refl
      (same_place s answer code n (pc + 1) (suc pc) (put slots lo i) (omega arith)
      (k (put slots lo i) (record {
        long = put_long slots lo i;
        same = λ r b. put_other slots lo r i (λ e. absurd (elim b [ inl y ↦ omega (arith, y, e) | inr y ↦ omega (arith, y, e) ]));
        lets = none (λ r p q. put_clean slots lo r i (clean r p q) (λ e. refl));
        is = (type_known v, ap type_held (put_same slots lo i fits), itself (type_known v));
        agrees = (type_known v, ap type_held (put_same slots lo i fits), g.there);
      })))

  names_nothing : (v : Value) → references v ≡ [] → NamesNothing v
  names_nothing v e n = ap (among n) e

  length_goes : (lo : ℕ) (t : Term) → handled.IsKnown t → LengthSo t → GoesBy s answer code lo (lower s.adts lo t) ty.Int
  length_goes lo (Evaluated (Num z)) h f = known_goes lo (Num z) tt (names_nothing (Num z) h)
  length_goes lo (Evaluated _) h f = absurd f
  length_goes lo _ h f = absurd h

  length_below : (lo : ℕ) (t : Term) → handled.IsKnown t → LengthSo t → (lower s.adts lo t).value < (lower s.adts lo t).free
  length_below lo (Evaluated (Num z)) h f = omega arith
  length_below lo (Evaluated _) h f = absurd f
  length_below lo _ h f = absurd h

  length_value : (t : Term) → Handled s.adts t → LengthSo t → HasValue t
  length_value (Evaluated v) h f = absurd h
  length_value t h f = f

  declared_goes : (lo : ℕ) (t : Ty) (o : Work) (ts : Terms) → Declares o ts → DeclaresSo s o ts
      → GoesBy s answer code lo (lower s.adts lo (Node t o ts)) (type_of s.adts (Node t o ts))
  declared_goes lo t (Assign (a ∷ aims)) (MoreTerms (Evaluated v) NoTerms) d f pc slots n has fits clean k =
      let number : ℕ = operands_for (a ∷ aims) in
      let value = slot_at number (lo ∷ []) in
      let at : value ≡ lo = ap (λ (j : ℕ). slot_at j (lo ∷ [])) d.0 in
      let i = Of (type_known v) [] in
      let last = put slots lo i in
      let known : type_known v ≡ ty.Nothing = ap type_known d.1 in
      let plain : IsKnown v = subst IsKnown (sym d.1) refl in
      let names : NamesNothing v = λ m. ap (λ (x : Value). among m (references x)) d.1 in
      let there : type_held (slot last value) ≡ Some ty.Nothing =
      ap (λ (r : ℕ). type_held (slot last r)) at ∙ ap type_held (put_same slots lo i fits) ∙ ap (λ (u : Ty). Some u) known in
      let rest = writes s.adts (a ∷ aims) (lo ∷ []) value in
      let g = gave code pc lo (type_known v) (Known v lo) has.0 (λ r. refl) in
      let told_value : told code (suc pc) value ≡ Some ty.Nothing = ap (told code (suc pc)) at ∙ g.there ∙ ap (λ (u : Ty). Some u) known in
      goes_to s answer code n pc (suc pc) slots last (Known v lo) has.0 (plain, names, clean lo (omega arith) (omega arith)) tt refl
      (declares_go s answer code (a ∷ aims) last (lo ∷ []) value n (suc pc) there told_value f has.1
      (same_place s answer code n (pc + suc (length rest)) (suc pc + length rest) last (omega arith)
      (k last (record {
        long = put_long slots lo i;
        same = λ r b. put_other slots lo r i (λ e. absurd (elim b [ inl y ↦ omega (arith, y, e) | inr y ↦ omega (arith, y, e) ]));
        lets = none (λ r p q. put_clean slots lo r i (clean r p q) (λ e. refl));
        is = (
          ty.Nothing,
          there,
          subst (λ (j : ℕ). StandsAs ty.Nothing (type_at s.adts j (MoreTerms (Evaluated v) NoTerms))) (sym d.0)
              (itself ty.Nothing),
        );
        agrees = (
          ty.Nothing,
          there,
          told_at code (pc + suc (length rest)) (suc pc + length rest) value (omega arith)
              ∙ told_over code (suc pc) value rest has.1 (writes_quiet s.adts value (a ∷ aims) (lo ∷ []) value) ∙ told_value,
        );
      }))))
  declared_goes lo t _ _ d f pc slots n has fits clean k = absurd d

  declares_not : (o : Work) (ts : Terms) (u : Ty) → DeclaresFor s o ts u → AllHandled s.adts ts → ⊥
  declares_not (Assign aims) (MoreTerms (Evaluated v) NoTerms) u d h = h.0
  declares_not _ _ u d h = d

  mutual
    pub term_goes : (t : Term) (u : Ty) → TermIs s [] None t u → Handled s.adts t → Formed s t → Runs s.adts t → (lo : ℕ)
        → GoesBy s answer code lo (lower s.adts lo t) (type_of s.adts t)
    term_goes (Node t o ts) u is h f q lo = ⊎_elim
        (λ (x : Suits s.adts t o ts × AllHandled s.adts ts). ⊎_elim
        (λ (w : WorkIs s t o is.0 u). node_goes s answer code few lo t o ts is.0 u (lower_all s.adts lo ts) (terms_up s.adts lo ts)
        (all_within s.adts lo ts) (values_stand s.adts ts x.1 lo) (values_counted s.adts lo ts) x.0 w
        (terms_stand s ts is.0 is.1 x.1 f.2) f.0 q.0 (terms_go ts is.0 is.1 x.1 f.2 q.1 lo)
        (operands_go ts is.0 is.1 x.1 f.2 q.1 lo)
        (terms_room s answers ts is.0 is.1 x.1 f.2))
        (λ (w : DeclaresFor s o ts u). absurd (declares_not o ts u w x.1)) is.2)
        (λ (x : Declares o ts). declared_goes lo t o ts x f.1) h
    term_goes (Lazy c l r) u is h f x lo =
        let a = lower s.adts lo l in
        lazy_goes s answer code (may_hold s.adts r) c lo a (lower s.adts (suc a.free) r) (type_of s.adts l) (type_of s.adts r)
        (term_up s.adts lo l) (term_up s.adts (suc a.free) r) (drops_within s.adts lo l) (drops_within s.adts (suc a.free) r)
        (λ q d. term_quiet s.adts q (suc a.free) r d) (no_drops s.adts (suc a.free) r)
        (term_goes l ty.Int is.0 h.0 f.1 x.0 lo) (term_goes r ty.Int is.1 h.1 f.3 x.1 (suc a.free))
        (term_stands s l ty.Int is.0 h.0 f.0 f.1) (term_stands s r ty.Int is.1 h.1 f.2 f.3)
    term_goes (Update o g t w ts us) u is h f x lo =
        let a = lower_all s.adts lo ts in
        update_goes s answer code o g t w lo a (lower_all s.adts (suc a.free) us) (types_in s.adts ts) (types_in s.adts us) is.0 is.1
        (terms_up s.adts lo ts) (terms_up s.adts (suc a.free) us) (all_within s.adts lo ts) (all_within s.adts (suc a.free) us)
        (λ q d. terms_quiet s.adts q (suc a.free) us d)
        (values_stand s.adts ts h.1 lo) (values_stand s.adts us h.2 (suc a.free)) (terms_stand s ts is.0 is.2 h.1 f.0)
        (terms_stand s us is.1 is.3 h.2 f.1) h.0 is.4 is.6 is.7 is.8
        (all_plain s answer code (λ after. NilsClean ts after a.values) lo a (types_in s.adts ts) (terms_go ts is.0 is.2 h.1 f.0 x.0 lo))
        (all_plain s answer code (λ after. NilsClean us after (lower_all s.adts (suc a.free) us).values) (suc a.free)
        (lower_all s.adts (suc a.free) us) (types_in s.adts us) (terms_go us is.1 is.3 h.2 f.1 x.1 (suc a.free)))
    term_goes (Fill t l items rest) u is h f z lo =
        let n = lower s.adts lo l in
        let shared = suc n.free in
        let from = max (items_end s.adts shared items) (rest_end s.adts shared rest) in
        let es = lower_items s.adts t n.free shared from items in
        let os = lower_rest s.adts t n.free (named s.adts items) shared es.free rest in
        let p = term_up s.adts lo l in
        let q = end_up s.adts shared items in
        let v = items_up s.adts t n.free shared from items in
        let w = rest_up s.adts t n.free (named s.adts items) shared es.free rest in
        let length_go : GoesBy s answer code lo n ty.Int = ⊎_elim
        (λ (x : handled.IsKnown l). length_goes lo l x f.0)
        (λ (x : Handled s.adts l). λ pc slots m has fits clean k. term_goes l ty.Int is.1 x f.1 z.0 lo pc slots m has fits clean
        (λ after left. k after (record {
          long = left.long;
          same = left.same;
          lets = left.lets;
          is = is_on after n.value (type_of s.adts l) ty.Int left.is (term_stands s l ty.Int is.1 x (length_value l x f.0) f.1);
          agrees = left.agrees;
        })))
        h.0 in
        fill_goes s answer code t lo from n es os p (omega arith) v w (drops_within s.adts lo l)
        (items_within s.adts from es.free t n.free shared from items (omega arith) (omega arith))
        (rest_within s.adts es.free os.free t n.free (named s.adts items) shared es.free rest (omega arith) (omega arith))
        (λ r b d. items_quiet s.adts r t n.free shared from from items (omega arith) (omega arith) (omega arith) b d)
        (λ r b d. rest_quiet s.adts r t n.free (named s.adts items) shared from es.free rest (omega arith) (omega arith) v b d)
        (⊎_elim (λ (x : handled.IsKnown l). length_below lo l x f.0)
        (λ (x : Handled s.adts l). (value_stands s.adts l x lo).between.1) h.0) is.0 length_go
        (items_go items t n.free shared from is.0 is.2 h.1 f.2 z.1 (omega arith) (omega arith) (omega arith) from (omega arith))
        (rest_go rest t n.free shared from is.0 is.3 h.2 f.3 z.2 (omega arith) (omega arith) (omega arith) es.free v (named s.adts items))
    term_goes _ u is h f q lo = absurd h

    pub terms_go : (ts : Terms) (us : List Ty) → TermsAre s [] None ts us → AllHandled s.adts ts → AllFormed s ts → AllRun s.adts ts
        → (lo : ℕ)
        → AllWith s answer code (λ after. NilsClean ts after (lower_all s.adts lo ts).values) lo (lower_all s.adts lo ts)
        (types_in s.adts ts)
    terms_go NoTerms us is h f x lo pc slots n has fits clean k =
        same_place s answer code n (pc + 0) pc slots (omega arith)
        (k slots (record { long = refl; same = λ r b. refl; lets = none clean; these = tt; agree = tt }) tt)
    terms_go (MoreTerms t ts) [] is h f x lo pc slots n has fits clean k = absurd is
    terms_go (MoreTerms t ts) (u ∷ us) is h f x lo pc slots n has fits clean k =
        let a = lower s.adts lo t in
        let b = lower_all s.adts a.free ts in
        let p = term_up s.adts lo t in
        let q = terms_up s.adts a.free ts in
        let v = (value_stands s.adts t h.0 lo).between in
        let wa = drops_within s.adts lo t in
        let e1 = length-append a.code b.code in
        let pc1 : ℕ = pc + length a.code in
        let at_end : ℕ = pc + length (a.code ++ b.code) in
        let tells = told code at_end in
        let has_more = has_back code pc a.code b.code has in
        let to_end : (r : ℕ) → tells r ≡ told code (pc1 + length b.code) r = λ r.
        told_at code at_end (pc1 + length b.code) r (omega arith) in
        let kept : (r : ℕ) → r < a.free → tells r ≡ told code pc1 r = λ r l.
        to_end r ∙ told_over code pc1 r b.code has_more (terms_quiet s.adts r a.free ts (inl l)) in
        with_nil s answer code lo t u is.0 (term_goes t u is.0 h.0 f.1 x.0 lo) pc slots n (has_front code pc a.code b.code has)
        (omega arith) (λ r y z. clean r y (omega arith))
        (λ one left nil. terms_go ts us is.1 h.1 f.2 x.1 a.free pc1 one n has_more
        (let e = left.long in omega arith)
        (λ r y z. clean_same (slot slots r) (slot one r) (left.same r (inr y)) (clean r (omega (arith, y, p)) z))
        (λ two more nils. same_place s answer code n at_end (pc1 + length b.code) two (omega arith)
        (k two (record {
          long = more.long ∙ left.long;
          same = λ r d. elim d [
            | inl y ↦ more.same r (inl (omega arith)) ∙ left.same r (inl y)
            | inr y ↦ more.same r (inr y) ∙ left.same r (inr (omega arith))
          ];
          lets = lets_more s.adts tells two lo a.free b.free a.drops b.drops wa (all_within s.adts a.free ts)
              (lets_same s.adts lo a.free (told code pc1) tells one two a.drops wa more.long (λ r d. more.same r (inl d.1))
              (λ r d. kept r d.1) left.lets)
              (lets_told s.adts a.free b.free (told code (pc1 + length b.code)) tells two b.drops to_end more.lets);
          these = (is_same one two a.value (type_of s.adts t) (more.same a.value (inl v.1)) left.is, more.these);
          agree = (
            told_on (told code pc1) tells one two a.value (more.same a.value (inl v.1)) (kept a.value v.1) left.agrees,
            all_told_on (told code (pc1 + length b.code)) tells two b.values to_end more.agree,
          );
        }) (
          λ e. clean_same (slot one a.value) (slot two a.value) (more.same a.value (inl v.1)) (nil e),
          nils,
        ))))

    -- and of each of them alone
    operands_go : (ts : Terms) (us : List Ty) → TermsAre s [] None ts us → AllHandled s.adts ts → AllFormed s ts → AllRun s.adts ts
        → (lo : ℕ)
        → EachBy s answer code lo (lower_all s.adts lo ts).free (lower_all s.adts lo ts).each (lower_all s.adts lo ts).drops
        (lower_all s.adts lo ts).values (types_in s.adts ts)
    operands_go NoTerms us is h f x lo = (omega arith, refl)
    operands_go (MoreTerms t ts) [] is h f x lo = absurd is
    operands_go (MoreTerms t ts) (u ∷ us) is h f x lo =
        let a = lower s.adts lo t in
        let b = lower_all s.adts a.free ts in (
          a.free,
          a.drops,
          b.drops,
          refl,
          term_up s.adts lo t,
          terms_up s.adts a.free ts,
          all_within s.adts a.free ts,
          record {
            between = (value_stands s.adts t h.0 lo).between;
            touch = drops_within s.adts lo t;
            quiet = λ r d. term_quiet s.adts r lo t d;
            goes = term_goes t u is.0 h.0 f.1 x.0 lo;
          },
          operands_go ts us is.1 h.1 f.2 x.1 a.free,
        )

    items_go : (items : Items) (t : Ty) (a shared from : ℕ) → HasRoom s.adts t → ItemsAre s [] None items t
        → HandledItems s.adts items → ItemsFormed s items → ItemsRun s.adts items → a < shared → shared ≤ from
        → items_end s.adts shared items ≤ from
        → (lo : ℕ) → from ≤ lo → ElementsGo s answer code t a shared from lo (lower_items s.adts t a shared lo items)
    items_go NoItems t a shared from room is h f w l m end lo p pc slots n array has fits clean fresh k =
        same_place s answer code n (pc + 0) pc slots (omega arith)
        (k slots (grown_none s.adts (told code (pc + 0)) slots shared from lo clean))
    items_go (MoreItems z e items) t a shared from room is h f w l m end lo p pc slots n array has fits clean fresh k =
        let b = may_hold s.adts e in
        let base : ℕ = if b then lo else shared in
        let x = lower s.adts base e in
        let lo' : ℕ = if b then x.free else lo in
        let y = lower_items s.adts t a shared lo' items in
        let element = Element t a z x.value in
        let side = sides s.adts b a shared from lo e refl l m p (omega arith) in
        let low = side.low in
        let up = side.up in
        let in_side = side.fits in
        let more_up = items_up s.adts t a shared lo' items in
        let e1 = length-append x.code (element ∷ y.code) in
        let has1 = has_back code pc x.code (element ∷ y.code) has in
        let behind : ℕ = pc + length x.code in
        let at_end : ℕ = suc behind + length y.code in
        let kept : (r : ℕ) → Between lo lo' r → told code at_end r ≡ told code behind r = λ r b.
        told_over code (suc behind) r y.code has1.1
        (items_quiet s.adts r t a shared from lo' items m (omega arith) (omega arith) (inr (let c = b.0 in omega (arith, c, p))) (inl b.1))
        ∙ told_same code behind r element has1.0 refl in
        term_goes e t is.0 h.0 f.1 w.0 base pc slots n (has_front code pc x.code (element ∷ y.code) has) (omega arith)
        (side.clean slots y.free more_up clean fresh)
        (λ one left.
        let pc1 : ℕ = pc + length x.code in
        let array1 : type_held (slot one a) ≡ Some (ty.ArrayOf t) = ap type_held (left.same a (inl low)) ∙ array in
        let clean1 = side.shares (told code pc1) slots one clean left.same left.lets in
        let fresh1 : AreClean one lo' y.free = λ r c d.
        clean_same (slot slots r) (slot one r) (left.same r (side.beside r (inr (omega (arith, c, up, p))) (inr c)))
        (fresh r (omega (arith, c, up)) d) in
        goes_to s answer code n pc1 (suc pc1) one one element has1.0 (
          room,
          (ty.ArrayOf t, array1, itself (ty.ArrayOf t)),
          is_on one x.value (type_of s.adts e) t left.is (term_stands s e t is.0 h.0 f.0 f.1),
        ) tt refl
        (items_go items t a shared from room is.1 h.1 f.2 w.1 l m (omega arith) lo' (omega arith) (suc pc1) one n array1 has1.1
        (let q = left.long in omega arith) clean1 fresh1
        (λ two grown. same_place s answer code n (pc + length (x.code ++ (element ∷ y.code))) (suc pc1 + length y.code) two (omega arith)
        (k two (grown_on s.adts (told code at_end) (told code (pc + length (x.code ++ (element ∷ y.code)))) slots two shared from lo y.free
        (x.drops ++ y.drops) (λ r. told_at code (pc + length (x.code ++ (element ∷ y.code))) at_end r (omega arith))
        (grown_more s.adts (told code behind) (told code at_end) slots one two shared from lo lo' y.free x.drops y.drops p up more_up
        side.touch
        (items_within s.adts lo' y.free t a shared lo' items (omega arith) (omega arith)) kept
        (record {
          long = left.long;
          same = λ r c d. left.same r (side.beside r c d);
          lets = side.lets (told code behind) one left.lets;
          clean = clean1;
        }) grown))))))

    rest_go : (rest : Terms) (t : Ty) (a shared from : ℕ) → HasRoom s.adts t → RestIs s [] rest t → HandledRest s.adts rest
        → AllFormed s rest → RestRuns s.adts rest → a < shared → shared ≤ from → rest_end s.adts shared rest ≤ from → (lo : ℕ)
        → from ≤ lo → (zs : List ℤ)
        → ElementsGo s answer code t a shared from lo (lower_rest s.adts t a zs shared lo rest)
    rest_go NoTerms t a shared from room is h f w l m end lo p zs pc slots n array has fits clean fresh k =
        same_place s answer code n (pc + 0) pc slots (omega arith)
        (k slots (grown_none s.adts (told code (pc + 0)) slots shared from lo clean))
    rest_go (MoreTerms e es) t a shared from room is h f w l m end lo p zs pc slots n array has fits clean fresh k =
        others_go s answer code (may_hold s.adts e) t (type_of s.adts e) a shared from lo zs e refl room
        (term_stands s e t is h f.0 f.1) l m p end (λ q base. drops_untaken s.adts base e (w.1 q)) (λ base. term_goes e t is h f.1 w.0 base)
        (λ base. (value_stands s.adts e h base).between)
        pc slots n array has fits clean fresh k

-- ---- the whole

pub trees_go_well : TreesGoWell
trees_go_well s answers few answer code t u is h f x pc slots has fits clean n k =
    let l = lower s.adts 0 t in
    let v = value_stands s.adts t h 0 in
    term_goes s answers few answer code t u is h f x 0 pc slots n (has_front code pc l.code l.drops has) fits (λ r p q. clean r)
    (λ one left. drops_go s answer code n n 0 l.free (pc + length l.code) (told code (pc + length l.code)) one l.drops (omega arith)
    left.lets
    (λ r. refl) (λ r. drops_still s.adts r 0 t) (drops_within s.adts 0 t)
    (let q = left.long in omega arith) (has_back code pc l.code l.drops has)
    (λ after long types same cleaned. same_place s answer code n (pc + length (whole s.adts t)) (pc + length l.code + length l.drops) after
    (let e = length-append l.code l.drops in omega arith)
    (k after (long ∙ left.long) (is_kept one after l.value (type_of s.adts t) (types l.value v.spares) left.is)
    (λ r. ⊎_elim
    (λ (m : r < l.free). cleaned r (omega arith) m)
    (λ (m : l.free ≤ r). clean_same (slot slots r) (slot after r) (same r (inr m) ∙ left.same r (inr m)) (clean r))
    (cases_lt r l.free)))))

pub values_go_well : ValuesGoWell
values_go_well s answers few answer code t u is h f x pc slots has fits clean n k =
    term_goes s answers few answer code t u is h f x 0 pc slots n has fits (λ r p q. clean r) (λ one left. k one left.long left.is)
