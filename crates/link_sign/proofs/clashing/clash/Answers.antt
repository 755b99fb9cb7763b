use Rattle.std.proofs.Common.{◌≡◌, ◌<◌, ◌+◌, ℕ, Bool, true, false, not, cond, ◌==◌, List, ◌∷◌, ◌++◌, length, take, drop, get_or, Vec, Option, None, Some, refl, sym, ap, ◌∙◌, subst, arith}
use Rattle.std.specs.Global.{Global}
use Rattle.std.specs.Ordering.{nat_cmp}
use Rattle.std.specs.BTreeMap.{get, is_at}
use Rattle.std.specs.Str.{bytes_eq}
use Rattle.link_sign.specs.Signature.{fold}
use Rattle.link_sign.specs.Clashes.{IsFirstClash, texts_of}
use Rattle.link_sign.proofs.Apart.{found, Knows, known_again, known_new, known_clash, clash_not_apart, text_there, texts_more, texts_all, texts_length, same_text, other_text, same_clash}
use Rattle.link_sign.proofs.clashing.clash.Goals as goal
use Rattle.link_sign.proofs.clashing.clash.Goals.{in-Some+else-ne, in-None+in_ok-insert-in-None, In-Some}

-- what the map has for the signature of a text
met : (at : ℕ → Option ℕ) (sign : ℕ) (now y : List ℕ) (o r : Option ℕ) → sign ≡ fold now → now ≡ y → o ≡ r → r ≡ at sign → at (fold y) ≡ o
met at sign now y o r s d e v = sym (e ∙ v ∙ ap at (s ∙ ap fold d))

not_false : (b : Bool) → false ≡ not b → true ≡ b
not_false true h = refl
not_false false h = absurd (cc)

-- the place that the map has is of a text before
below : (at : ℕ → Option ℕ) (xs : List (List ℕ)) (y : List ℕ) (k : ℕ) → Knows at xs → at (fold y) ≡ Some k → k < length xs
below at xs y k known h = (found (λ t. fold t == fold y) xs k y (sym (known.firsts (fold y)) ∙ h)).within

first_below : (c : In-Some) → (c.in-Some.first < c.loop-number.number) × (c.loop-number.number < length c.args.texts.now)
first_below c =
    let at = get nat_cmp c.loop-number.firsts in
    let y = c.index-texts-number.result.items in
    let xs = texts_of (take c.loop-number.number c.args.texts.now) in
    let m = met at c.fold_text-sign.result c.deref.result.now y (Some c.in-Some.first) _ c.fold_text-sign.ensures c.deref.ensures.value c.in-Some.ensures c.get.ensures.value in
    let b = below at xs y c.in-Some.first c.loop-number.invariant m in
    let inside : c.loop-number.number < length c.args.texts.now = omega arith in
    let len = texts_length c.args.texts.now c.loop-number.number (omega arith) in
    (omega (arith, b, len), inside)

pub bounds-texts-first : goal.bounds-texts-first
bounds-texts-first c = let b = first_below c in omega (arith, b.0, b.1)

pub offset_bounds-texts-first : goal.offset_bounds-texts-first
offset_bounds-texts-first c = let b = first_below c in omega (arith, b.0, b.1)

-- what is known of the text that stands at the place
same_or_other : (c : In-Some) (d : List ℕ) → (first : Vec ℕ Global) → first ≡ get_or c.args.texts.now c.in-Some.first first
    → get_or (texts_of (take c.loop-number.number c.args.texts.now)) c.in-Some.first d ≡ first.items
same_or_other c d first e =
    let b = first_below c in
    let len = texts_length c.args.texts.now c.loop-number.number (omega (arith, b.1)) in
    text_there c.args.texts.now c.loop-number.number c.in-Some.first first d (omega (arith, b.0, len)) e

clash_found : (c : In-Some) (first : Vec ℕ Global) → first ≡ get_or c.args.texts.now c.in-Some.first first
    → true ≡ not (bytes_eq first.items c.index-texts-number.result.items)
    → IsFirstClash (texts_of c.args.texts.now) first.items c.index-texts-number.result.items
clash_found c first e ne =
    let at = get nat_cmp c.loop-number.firsts in
    let y = c.index-texts-number.result.items in
    let xs = texts_of (take c.loop-number.number c.args.texts.now) in
    let zs = texts_of (drop (c.loop-number.number + 1) c.args.texts.now) in
    let m = met at c.fold_text-sign.result c.deref.result.now y (Some c.in-Some.first) _ c.fold_text-sign.ensures c.deref.ensures.value c.in-Some.ensures c.get.ensures.value in
    let there = same_or_other c y first e in
    let b = first_below c in
    same_clash (xs ++ y ∷ zs) (texts_of c.args.texts.now) (get_or xs c.in-Some.first y) first.items y y
    (sym (texts_all c.args.texts.now c.loop-number.number c.index-texts-number.result b.1 c.index-texts-number.is)) there refl
    (known_clash at xs y c.loop-number.invariant c.in-Some.first zs m (λ h. other_text first.items y ne (sym there ∙ h)))

pub returns-then-ne-clause-first : goal.returns-then-ne-clause-first
returns-then-ne-clause-first c =
    let i = (goal.at.returns-then-ne-clause-first c).In-Some in
    let r = c.in_ok-told-in-Some.field-0 in
    let first : r.first.items ≡ c.index-texts-first.result.items = c.in_ok-told-in-Some.ensures.first ∙ c.deref-then-ne.ensures.value in
    let second : r.second.items ≡ c.index-texts-number.result.items = c.in_ok-told-in-Some.ensures.second ∙ c.deref-then-ne-2.ensures.value in
    record {
      clash = same_clash (texts_of c.args.texts.now) (texts_of c.args.texts.now) c.index-texts-first.result.items r.first.items c.index-texts-number.result.items r.second.items
          refl (sym first) (sym second) (clash_found i c.index-texts-first.result c.index-texts-first.is c.if-ne.ensures);
      sign = c.in_ok-told-in-Some.ensures.sign ∙ c.fold_text-sign.ensures ∙ ap fold (c.deref.ensures.value ∙ sym second);
    }

pub returns-then-ne-clause-none : goal.returns-then-ne-clause-none
returns-then-ne-clause-none c =
    let i = (goal.at.returns-then-ne-clause-none c).In-Some in (
      λ h. absurd (cc),
      λ apart. absurd (clash_not_apart (texts_of c.args.texts.now) c.index-texts-first.result.items c.index-texts-number.result.items
          (clash_found i c.index-texts-first.result c.index-texts-first.is c.if-ne.ensures) apart),
    )

pub loop-number-preserved : goal.loop-number-preserved
loop-number-preserved c =
    let at = get nat_cmp c.loop-number.firsts in
    let texts = c.args.texts.now in
    let n = c.loop-number.number in
    let text = c.index-texts-number.result in
    let y = text.items in
    let xs = texts_of (take n texts) in
    let inside : n < length texts = omega arith in
    let more = texts_more texts n text inside c.index-texts-number.is in
    elim c.match-copied.branch [
      | in-Some+else-ne w ↦
          let k = w.in-Some.first in
          let m = met at c.fold_text-sign.result c.deref.result.now y (Some k) _ c.fold_text-sign.ensures c.deref.ensures.value w.in-Some.ensures c.get.ensures.value in
          let len = texts_length texts n (omega arith) in
          let there = text_there texts n k w.index-texts-first.result y (below at xs y k c.loop-number.invariant m) w.index-texts-first.is in
          let same : w.index-texts-first.result.items ≡ y = same_text w.index-texts-first.result.items y (not_false (bytes_eq w.index-texts-first.result.items y) w.if-ne.ensures) in
          subst (λ f. Knows (get nat_cmp f) (texts_of (take (n + 1) texts))) (sym w.firsts-is)
          (subst (λ z. Knows at z) (sym more) (known_again at xs y c.loop-number.invariant k m (there ∙ same)))
      | in-None+in_ok-insert-in-None w ↦
          let m = met at c.fold_text-sign.result c.deref.result.now y None _ c.fold_text-sign.ensures c.deref.ensures.value w.in-None.ensures c.get.ensures.value in
          let len = texts_length texts n (omega arith) in
          let sign : c.fold_text-sign.result ≡ fold y = c.fold_text-sign.ensures ∙ ap fold c.deref.ensures.value in
          subst (λ f. Knows (get nat_cmp f) (texts_of (take (n + 1) texts))) (sym w.firsts-is)
          (subst (λ z. Knows (get nat_cmp w.insert.new.self) z) (sym more) (known_new at xs y c.loop-number.invariant (get nat_cmp w.insert.new.self) m
          (λ q. w.in_ok-insert-in-None.ensures.updates.0 q ∙ ap (λ s. cond (is_at (nat_cmp s) q) (Some n) (at q)) sign ∙ ap (λ l. cond (is_at (nat_cmp (fold y)) q) (Some l) (at q)) (sym len))))
    ]
