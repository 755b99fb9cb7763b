-- The texts that includes lead to, one level after the other.
use Rattle.std.proofs.Common.{◌≡◌, ◌≢◌, ℕ, zero, suc, ◌+◌, ◌<◌, ◌≤◌, ◌⊎◌, inl, inr, Bool, true, false, List, [], ◌∷◌, ◌++◌, length, map, replicate, get_or, Option, None, Some, refl, sym, ap, subst, ◌∙◌, append_assoc, arith}
use Rattle.std.specs.Prelude.{slice_get}
use Rattle.std.specs.List.{All, Contains}
use Rattle.std.specs.Option.{MatchOption, IfSome, IfNone, option_map, option_or}
use Rattle.std.proofs.lemmas.List.{append-nil, length-map, length-append, length-replicate}
use Rattle.std.proofs.lemmas.List.Elements.{Contains-get_or, Contains-append_left, Contains-append_right, Contains-append_cases}
use Rattle.std.proofs.lemmas.Option.{same_Some, none-some, slice_get_within, slice_get-map}
use Rattle.inf_text.specs.declared.span.Span.{Span}
use Rattle.limbo_tree.specs.declared.source.Top.{Top}
use Rattle.limbo_tree.specs.declared.source.Top.TheVariants.{Include, Declare, Define}
use Rattle.limbo_includes.specs.declared.included.Included.{Included}
use Rattle.limbo_includes.specs.declared.links.Link.{Link}
use Rattle.limbo_includes.specs.Shelf.{place_of}
use Rattle.limbo_includes.specs.Includes.{target, Given, Leads, to_given, to_included, IsTooDeep, LacksAt, IsWhole}
use Rattle.limbo_includes.specs.Links.{Page, page_of, pages, links_in, links_from, links_of, is_marked, IsNamed, IsLevel, IsLost, NoneLost}
use Rattle.limbo_includes.proofs.Lists.{contains_here, contains_there, contains_cases}
use Rattle.limbo_includes.proofs.Places.{is_there, IsThere, is_lacking, lacks_place, has_place}
use Rattle.limbo_includes.proofs.Deep.{shallow}

-- ---- the list of all includes

-- one of a text's, as it stands there
pub record IsOf (included : List Included) (n : ℕ) (path : List ℕ) (tops : List Top) (l : Link) : Type 0 where
  pub name : List ℕ
  pub stands : Contains tops (Include name l.at)
  pub from : l.from ≡ n
  pub to : l.to ≡ place_of included (target path name)

of_more : (included : List Included) (n : ℕ) (path : List ℕ) (top : Top) (tops : List Top) (l : Link) → IsOf included n path tops l → IsOf included n path (top ∷ tops) l
of_more included n path top tops l i = record { name = i.name; stands = contains_there top (Include i.name l.at) tops i.stands; from = i.from; to = i.to }

links_sound : (included : List Included) (n : ℕ) (path : List ℕ) (tops : List Top) (l : Link) → Contains (links_in included n path tops) l → IsOf included n path tops l
links_sound included n path [] l c = let x = c.1 in absurd (omega arith)
links_sound included n path (Declare d ∷ tops) l c = of_more included n path (Declare d) tops l (links_sound included n path tops l c)
links_sound included n path (Define f ∷ tops) l c = of_more included n path (Define f) tops l (links_sound included n path tops l c)
links_sound included n path (Include name at ∷ tops) l c =
    elim (contains_cases (record { from = n; to = place_of included (target path name); at = at }) l (links_in included n path tops) c) [
      | inl e ↦ record {
        name = name;
        stands = subst (λ (z : Link). Contains (Include name at ∷ tops) (Include name z.at)) e (contains_here (Include name at) tops);
        from = sym (ap (λ (z : Link). z.from) e);
        to = sym (ap (λ (z : Link). z.to) e);
      }
      | inr k ↦ of_more included n path (Include name at) tops l (links_sound included n path tops l k)
    ]

links_complete :
    (included : List Included) (n : ℕ) (path : List ℕ) (tops : List Top) (name : List ℕ) (at : Span) → Contains tops (Include name at)
    → Contains (links_in included n path tops) (record { from = n; to = place_of included (target path name); at = at })
links_complete included n path [] name at c = let x = c.1 in absurd (omega arith)
links_complete included n path (Declare d ∷ tops) name at c =
    elim (contains_cases (Declare d) (Include name at) tops c) [
      | inl e ↦ absurd cc
      | inr k ↦ links_complete included n path tops name at k
    ]
links_complete included n path (Define f ∷ tops) name at c =
    elim (contains_cases (Define f) (Include name at) tops c) [
      | inl e ↦ absurd cc
      | inr k ↦ links_complete included n path tops name at k
    ]
links_complete included n path (Include m a ∷ tops) name at c =
    elim (contains_cases (Include m a) (Include name at) tops c) [
      | inl e ↦
          let p : m ≡ name = cc in
          let q : a ≡ at = cc in
          subst (λ (z : List ℕ). Contains (links_in included n path (Include m a ∷ tops)) (record { from = n; to = place_of included (target path z); at = at })) p
          (subst (λ (z : Span). Contains (links_in included n path (Include m a ∷ tops)) (record { from = n; to = place_of included (target path m); at = z })) q
          (contains_here (record { from = n; to = place_of included (target path m); at = a }) (links_in included n path tops)))
      | inr k ↦
          contains_there (record { from = n; to = place_of included (target path m); at = a }) _ (links_in included n path tops)
          (links_complete included n path tops name at k)
    ]

pub record IsFrom (included : List Included) (n : ℕ) (ps : List Page) (l : Link) : Type 0 where
  pub place : ℕ
  pub page : Page
  pub there : slice_get ps place ≡ Some page
  pub number : l.from ≡ n + place
  pub is_of : IsOf included (n + place) page.path page.tops l

from_sound : (included : List Included) (n : ℕ) (ps : List Page) (l : Link) → Contains (links_from included n ps) l → IsFrom included n ps l
from_sound included n [] l c = let x = c.1 in absurd (omega arith)
from_sound included n (p ∷ ps) l c =
    elim (Contains-append_cases (links_in included n p.path p.tops) (links_from included (n + 1) ps) l c) [
      | inl k ↦
          let i = links_sound included n p.path p.tops l k in
          let q : n + 0 ≡ n = omega arith in
          record { place = 0; page = p; there = refl; number = i.from ∙ sym q; is_of = subst (λ (z : ℕ). IsOf included z p.path p.tops l) (sym q) i }
      | inr k ↦
          let r = from_sound included (n + 1) ps l k in
          let q : n + 1 + r.place ≡ n + suc r.place = omega arith in
          record { place = suc r.place; page = r.page; there = r.there; number = r.number ∙ q; is_of = subst (λ (z : ℕ). IsOf included z r.page.path r.page.tops l) q r.is_of }
    ]

from_complete :
    (included : List Included) (n : ℕ) (ps : List Page) (i : ℕ) (p : Page) (l : Link) → slice_get ps i ≡ Some p
    → Contains (links_in included (n + i) p.path p.tops) l → Contains (links_from included n ps) l
from_complete included n [] i p l e c = absurd (none-some p e)
from_complete included n (q ∷ ps) zero p l e c =
    let s : p ≡ q = same_Some p q (sym e) in
    let z : n + 0 ≡ n = omega arith in
    Contains-append_left (links_in included n q.path q.tops) (links_from included (n + 1) ps) l
    (subst (λ (x : Page). Contains (links_in included n x.path x.tops) l) s (subst (λ (x : ℕ). Contains (links_in included x p.path p.tops) l) z c))
from_complete included n (q ∷ ps) (suc i) p l e c =
    let z : n + suc i ≡ n + 1 + i = omega arith in
    Contains-append_right (links_in included n q.path q.tops) (links_from included (n + 1) ps) l
    (from_complete included (n + 1) ps i p l e (subst (λ (x : ℕ). Contains (links_in included x p.path p.tops) l) z c))

from_append :
    (included : List Included) (n : ℕ) (ps qs : List Page)
    → links_from included n (ps ++ qs) ≡ links_from included n ps ++ links_from included (n + length ps) qs
from_append included n [] qs = let q : n + 0 ≡ n = omega arith in ap (λ (m : ℕ). links_from included m qs) (sym q)
from_append included n (p ∷ ps) qs =
    let q : n + 1 + length ps ≡ n + suc (length ps) = omega arith in
    ap (λ (z : List Link). links_in included n p.path p.tops ++ z) (from_append included (n + 1) ps qs)
    ∙ sym (append_assoc (links_in included n p.path p.tops) (links_from included (n + 1) ps) (links_from included (n + 1 + length ps) qs))
    ∙ ap (λ (m : ℕ). links_in included n p.path p.tops ++ links_from included (n + 1) ps ++ links_from included m qs) q

module _ (g : Given) where
  -- the given source's come last
  pub links_whole : links_from g.included 0 (map page_of g.included) ++ links_in g.included (length g.included) g.path g.source ≡ links_of g
  links_whole =
      let q : length g.included ≡ 0 + length (map page_of g.included) = (let m = length-map g.included page_of in omega arith) in
      ap (λ (n : ℕ). links_from g.included 0 (map page_of g.included) ++ links_in g.included n g.path g.source) q
      ∙ ap (λ (z : List Link). links_from g.included 0 (map page_of g.included) ++ z) (sym (append-nil (links_in g.included (0 + length (map page_of g.included)) g.path g.source)))
      ∙ sym (from_append g.included 0 (map page_of g.included) (record { path = g.path; tops = g.source } ∷ []))

  -- an include of the list, by its own text
  pub link_stands :
      (l : Link) (p : Page) → Contains (links_of g) l → slice_get (pages g) l.from ≡ Some p
      → (name : List ℕ) × Contains p.tops (Include name l.at) × (l.to ≡ place_of g.included (target p.path name))
  link_stands l p c e =
      let f = from_sound g.included 0 (pages g) l c in
      let n : l.from ≡ f.place = (let x = f.number in omega arith) in
      let s : f.page ≡ p = same_Some f.page p (sym f.there ∙ sym (ap (slice_get (pages g)) n) ∙ e) in
      (f.is_of.name, subst (λ (z : Page). Contains z.tops (Include f.is_of.name l.at)) s f.is_of.stands, f.is_of.to ∙ ap (λ (z : Page). place_of g.included (target z.path f.is_of.name)) s)

  pub link_listed :
      (n : ℕ) (p : Page) (name : List ℕ) (at : Span) → slice_get (pages g) n ≡ Some p → Contains p.tops (Include name at)
      → Contains (links_of g) (record { from = n; to = place_of g.included (target p.path name); at = at })
  link_listed n p name at e c =
      let z : 0 + n ≡ n = omega arith in
      from_complete g.included 0 (pages g) n p _ e
      (subst (λ (x : ℕ). Contains (links_in g.included x p.path p.tops) (record { from = n; to = place_of g.included (target p.path name); at = at })) (sym z)
      (links_complete g.included n p.path p.tops name at c))

  -- ---- the pages

  front_page : {X : Type 0} (xs ys : List X) (n : ℕ) (x : X) → slice_get xs n ≡ Some x → slice_get (xs ++ ys) n ≡ Some x
  front_page [] ys n x e = absurd (none-some x e)
  front_page (y ∷ xs) ys zero x e = e
  front_page (y ∷ xs) ys (suc n) x e = front_page xs ys n x e

  pub page_at : (n : ℕ) (t : Included) → slice_get g.included n ≡ Some t → slice_get (pages g) n ≡ Some (page_of t)
  page_at n t e = front_page (map page_of g.included) _ n (page_of t) (slice_get-map page_of g.included n ∙ ap (option_map page_of) e)

  last_page : {X : Type 0} (xs : List X) (x : X) → slice_get (xs ++ x ∷ []) (length xs) ≡ Some x
  last_page [] x = refl
  last_page (y ∷ xs) x = last_page xs x

  pub source_page : slice_get (pages g) (length g.included) ≡ Some (record { path = g.path; tops = g.source })
  source_page =
      ap (slice_get (pages g)) (sym (length-map g.included page_of)) ∙ last_page (map page_of g.included) (record { path = g.path; tops = g.source })

  pub pages_length : length (pages g) ≡ length g.included + 1
  pages_length = length-append (map page_of g.included) (record { path = g.path; tops = g.source } ∷ []) ∙ ap (λ (z : ℕ). z + 1) (length-map g.included page_of)

  -- ---- the levels

  pub link_within : (l : Link) → Contains (links_of g) l → (n : ℕ) → l.to ≡ Some n → n < length (pages g)
  link_within l c n e =
      let f = from_sound g.included 0 (pages g) l c in
      let i : IsThere g.included (target f.page.path f.is_of.name) n = is_there g.included (target f.page.path f.is_of.name) n (sym f.is_of.to ∙ e) in
      slice_get_within (pages g) n (page_of i.text) (page_at n i.text i.there)

  pub level_next :
      (d : ℕ) (marks next : List Bool) → IsLevel g d marks → length next ≡ length marks
      → ((n : ℕ) → is_marked next n ≡ true → IsNamed (links_of g) marks n) → ((n : ℕ) → IsNamed (links_of g) marks n → is_marked next n ≡ true)
      → IsLevel g (suc d) next
  level_next d marks next l q s c = record { same_length = q ∙ l.same_length; sound = sound; complete = complete }
    where
      sound : (n : ℕ) → is_marked next n ≡ true → (p : Page) × (slice_get (pages g) n ≡ Some p) × Leads g (suc d) p.path p.tops
      sound n m =
          let i = s n m in
          let b = l.sound i.link.from i.begins in
          let k = link_stands i.link b.0 i.listed b.1 in
          let t : IsThere g.included (target b.0.path k.0) n = is_there g.included (target b.0.path k.0) n (sym k.2 ∙ i.to) in (
            page_of t.text,
            page_at n t.text t.there,
            subst (λ (z : List ℕ). Leads g (suc d) z t.text.tree.tops.items) (sym t.same_path) (to_included d b.0.path k.0 i.link.at b.0.tops t.text.tree.tops.items b.2 k.1 t.tops),
          )

      complete :
          (path : List ℕ) (tops : List Top) → Leads g (suc d) path tops
          → (n : ℕ) × (is_marked next n ≡ true) × (slice_get (pages g) n ≡ Some (record { path = path; tops = tops }))
      complete _ _ (to_included _ path name at tops inner k stands e) =
          let b = l.complete path tops k in
          let h = has_place g.included (target path name) inner e in
          let t : IsThere g.included (target path name) h.0 = is_there g.included (target path name) h.0 h.1 in
          let i : t.text.tree.tops.items ≡ inner = same_Some t.text.tree.tops.items inner (sym t.tops ∙ e) in (
            h.0,
            c h.0 (record {
              link = record { from = b.0; to = place_of g.included (target path name); at = at };
              listed = link_listed b.0 (record { path = path; tops = tops }) name at b.2 stands;
              begins = b.1;
              to = h.1;
            }),
            page_at h.0 t.text t.there
                ∙ ap (λ (z : List ℕ). Some (let p : Page = record { path = z; tops = t.text.tree.tops.items } in p)) t.same_path
                ∙ ap (λ (z : List Top). Some (let p : Page = record { path = target path name; tops = z } in p)) i,
          )

  last_marked : (k n : ℕ) → get_or (replicate k false ++ true ∷ []) n false ≡ true → n ≡ k
  last_marked zero zero e = refl
  last_marked zero (suc n) e = absurd cc
  last_marked (suc k) zero e = absurd cc
  last_marked (suc k) (suc n) e = ap suc (last_marked k n e)

  mark_last : (k : ℕ) → get_or (replicate k false ++ true ∷ []) k false ≡ true
  mark_last zero = refl
  mark_last (suc k) = mark_last k

  pub level_first : (marks : List Bool) → marks ≡ replicate (length g.included) false ++ true ∷ [] → IsLevel g 0 marks
  level_first marks e = record {
    same_length =
        ap length e ∙ length-append (replicate (length g.included) false) (true ∷ []) ∙ ap (λ (z : ℕ). z + 1) (length-replicate (length g.included) false) ∙ sym pages_length;
    sound = λ n m.
        let q : n ≡ length g.included = last_marked (length g.included) n (subst (λ (z : List Bool). is_marked z n ≡ true) e m) in
        (record { path = g.path; tops = g.source }, ap (slice_get (pages g)) q ∙ source_page, to_given);
    complete = complete;
  }
    where
      complete :
          (path : List ℕ) (tops : List Top) → Leads g zero path tops
          → (n : ℕ) × (is_marked marks n ≡ true) × (slice_get (pages g) n ≡ Some (record { path = path; tops = tops }))
      complete _ _ to_given = (length g.included, subst (λ (z : List Bool). is_marked z (length g.included) ≡ true) (sym e) (mark_last (length g.included)), source_page)

  -- ---- the answers

  -- an include stands in a marked text
  pub deep_there : (d : ℕ) (marks : List Bool) → IsLevel g d marks → d ≡ 16 → (l : Link) → Contains (links_of g) l → is_marked marks l.from ≡ true → IsTooDeep g
  deep_there d marks v q l c m =
      let b = v.sound l.from m in
      let k = link_stands l b.0 c b.1 in
      record { path = b.0.path; tops = b.0.tops; name = k.0; at = l.at; leads = subst (λ (z : ℕ). Leads g z b.0.path b.0.tops) q b.2; stands = k.1 }

  -- none does
  pub not_deep :
      (d : ℕ) (marks : List Bool) → IsLevel g d marks → d ≡ 16 → ((l : Link) → Contains (links_of g) l → is_marked marks l.from ≡ false)
      → IsTooDeep g → ⊥
  not_deep d marks v q f t =
      let b = v.complete t.path t.tops (subst (λ (z : ℕ). Leads g z t.path t.tops) (sym q) t.leads) in
      let c = f (record { from = b.0; to = place_of g.included (target t.path t.name); at = t.at }) (link_listed b.0 (record { path = t.path; tops = t.tops }) t.name t.at b.2 t.stands) in
      absurd (let x = b.1 in cc)

  pub none_more :
      (d : ℕ) (marks : List Bool) → IsLevel g d marks → NoneLost g d
      → ((l : Link) → Contains (links_of g) l → is_marked marks l.from ≡ true → l.to ≢ None) → NoneLost g (d + 1)
  none_more d marks v n f path at l h = elim (below d l.depth h) [
    | inl i ↦ n path at l i
    | inr q ↦
        let b = v.complete path l.tops (subst (λ (z : ℕ). Leads g z path l.tops) q l.leads) in
        f (record { from = b.0; to = place_of g.included (target path l.name); at = at }) (link_listed b.0 (record { path = path; tops = l.tops }) l.name at b.2 l.stands) b.1
        (lacks_place g.included (target path l.name) l.missing)
  ]
    where
      below : (m n : ℕ) → n < m + 1 → (n < m) ⊎ (n ≡ m)
      below m n h = grind arith

  pub is_lost : (d : ℕ) (marks : List Bool) → IsLevel g d marks → (l : Link) → Contains (links_of g) l → is_marked marks l.from ≡ true → l.to ≡ None → IsLost g l
  is_lost d marks v l c m e =
      let b = v.sound l.from m in
      let k = link_stands l b.0 c b.1 in
      record {
        page = b.0;
        there = b.1;
        lacks = record { depth = d; tops = b.0.tops; name = k.0; leads = b.2; stands = k.1; missing = is_lacking g.included (target b.0.path k.0) (sym k.2 ∙ e) };
      }

  pub is_whole : (IsTooDeep g → ⊥) → NoneLost g 16 → IsWhole g
  is_whole f n = record { nested = f; there = there }
    where
      there : (path : List ℕ) (at : Span) → LacksAt g path at → ⊥
      there path at l = elim (at_most l.depth (shallow g f l.depth path l.tops l.leads)) [
        | inl i ↦ n path at l i
        | inr q ↦ f (record { path = path; tops = l.tops; name = l.name; at = at; leads = subst (λ (z : ℕ). Leads g z path l.tops) q l.leads; stands = l.stands })
      ]
        where
          at_most : (n : ℕ) → n ≤ 16 → (n < 16) ⊎ (n ≡ 16)
          at_most n h = grind arith

  -- ---- the code's list of includes

  within_each : (m : ℕ) (o : Option ℕ) → ((n : ℕ) → o ≡ Some n → n < m) → IfSome o (λ n. n < m)
  within_each m None f = tt
  within_each m (Some n) f = f n refl

  pub links_within : (d : ℕ) (marks : List Bool) → IsLevel g d marks → All (λ l. IfSome l.to (λ n. n < length marks)) (links_of g)
  links_within d marks v k x h =
      let l = get_or (links_of g) k x in
      within_each (length marks) l.to
      (λ n e. let w = link_within l (Contains-get_or (links_of g) k x h) n e in let q = v.same_length in omega arith)

  pub lost_more :
      (d : ℕ) (marks : List Bool) → IsLevel g d marks → (o p : Option Link) → MatchOption o (NoneLost g d) (λ l. IsLost g l)
      → IfSome p (λ l. Contains (links_of g) l × (is_marked marks l.from ≡ true) × (l.to ≡ None))
      → IfNone p ((l : Link) → Contains (links_of g) l → is_marked marks l.from ≡ true → l.to ≢ None)
      → MatchOption (option_or o p) (NoneLost g (d + 1)) (λ l. IsLost g l)
  lost_more d marks v (Some k) p m s n = m
  lost_more d marks v None (Some k) m s n = is_lost d marks v k s.0 s.1 s.2
  lost_more d marks v None None m s n = none_more d marks v m n
