-- Where a text stands, and what stands in it.
use Rattle.std.proofs.Common.{◌≡◌, ℕ, suc, ◌+◌, ◌-◌, ◌<◌, ◌≤◌, get_or, Bool, true, false, if◌then◌else◌, List, [], ◌∷◌, drop, length, Option, None, Some, refl, sym, ap, subst, ◌∙◌, arith}
use Rattle.std.specs.Prelude.{slice_get}
use Rattle.std.specs.Ordering.{nat_cmp}
use Rattle.std.specs.Option.{IfSome}
use Rattle.std.specs.BTreeMap.{BTreeMap, get_by, Updates}
use Rattle.std.specs.Cmp.Lexicographic.{same_text, slice_cmp, texts_ties}
use Rattle.std.proofs.lemmas.List.{drop_more}
use Rattle.std.proofs.lemmas.Option.{same_Some, none-some, slice_get_within}
use Rattle.limbo_tree.specs.declared.source.Top.{Top}
use Rattle.limbo_includes.specs.declared.included.Included.{Included}
use Rattle.limbo_includes.specs.Includes.{is_same, tops_at}
use Rattle.limbo_includes.specs.Shelf.{place_from, place_of}

pub record IsFound (included : List Included) (n : ℕ) (path : List ℕ) (k : ℕ) : Type 0 where
  pub place : ℕ
  pub text : Included
  pub number : k ≡ n + place
  pub there : slice_get included place ≡ Some text
  pub same_path : text.path ≡ path
  pub tops : tops_at included path ≡ Some text.tree.tops.items

found_from : (included : List Included) (n : ℕ) (path : List ℕ) (k : ℕ) → place_from n included path ≡ Some k → IsFound included n path k
found_from [] n path k e = absurd (none-some k e)
found_from (t ∷ ts) n path k e = pick (found_from ts (n + 1) path k) (is_same t.path path) refl e
  where
    pick : (place_from (n + 1) ts path ≡ Some k → IsFound ts (n + 1) path k) → (b : Bool) → is_same t.path path ≡ b
        → (if b then Some n else place_from (n + 1) ts path) ≡ Some k → IsFound (t ∷ ts) n path k
    pick rest true s e = record {
      place = 0;
      text = t;
      number = let q : n ≡ k = same_Some n k e in omega arith;
      there = refl;
      same_path = same_text t.path path (sym s);
      tops = ap (λ (b : Bool). if b then Some t.tree.tops.items else tops_at ts path) s;
    }
    pick rest false s e =
        let r = rest e in
        let q = r.number in
        record {
          place = suc r.place;
          text = r.text;
          number = omega arith;
          there = r.there;
          same_path = r.same_path;
          tops = ap (λ (b : Bool). if b then Some t.tree.tops.items else tops_at ts path) s ∙ r.tops;
        }

lacks_from : (included : List Included) (n : ℕ) (path : List ℕ) → place_from n included path ≡ None → tops_at included path ≡ None
lacks_from [] n path e = refl
lacks_from (t ∷ ts) n path e = pick (lacks_from ts (n + 1) path) (is_same t.path path) refl e
  where
    pick : (place_from (n + 1) ts path ≡ None → tops_at ts path ≡ None) → (b : Bool) → is_same t.path path ≡ b
        → (if b then Some n else place_from (n + 1) ts path) ≡ None → tops_at (t ∷ ts) path ≡ None
    pick rest true s e = absurd (none-some n (sym e))
    pick rest false s e = ap (λ (b : Bool). if b then Some t.tree.tops.items else tops_at ts path) s ∙ rest e

-- the text of this number is the first of its path
pub record IsThere (included : List Included) (path : List ℕ) (k : ℕ) : Type 0 where
  pub text : Included
  pub there : slice_get included k ≡ Some text
  pub same_path : text.path ≡ path
  pub tops : tops_at included path ≡ Some text.tree.tops.items

pub is_there : (included : List Included) (path : List ℕ) (k : ℕ) → place_of included path ≡ Some k → IsThere included path k
is_there included path k e =
    let f = found_from included 0 path k e in
    let q : f.place ≡ k = (let n = f.number in omega arith) in
    record {
      text = f.text;
      there = subst (λ (z : ℕ). slice_get included z ≡ Some f.text) q f.there;
      same_path = f.same_path;
      tops = f.tops;
    }

pub is_lacking : (included : List Included) (path : List ℕ) → place_of included path ≡ None → tops_at included path ≡ None
is_lacking included path e = lacks_from included 0 path e

-- the other way round
pub lacks_place : (included : List Included) (path : List ℕ) → tops_at included path ≡ None → place_of included path ≡ None
lacks_place included path e = pick (place_of included path) refl
  where
    pick : (o : Option ℕ) → place_of included path ≡ o → place_of included path ≡ None
    pick None q = q
    pick (Some k) q = absurd (none-some _ (sym e ∙ (is_there included path k q).tops))

pub has_place : (included : List Included) (path : List ℕ) (tops : List Top) → tops_at included path ≡ Some tops → (k : ℕ) × (place_of included path ≡ Some k)
has_place included path tops e = pick (place_of included path) refl
  where
    pick : (o : Option ℕ) → place_of included path ≡ o → (k : ℕ) × (place_of included path ≡ Some k)
    pick None q = absurd (none-some tops (sym (is_lacking included path q) ∙ e))
    pick (Some k) q = (k, q)

pub place_within : (included : List Included) (path : List ℕ) (o : Option ℕ) → o ≡ place_of included path → IfSome o (λ n. n < length included)
place_within included path None e = tt
place_within included path (Some k) e = let i = is_there included path k (sym e) in slice_get_within included k i.text i.there

-- the map with one text more, in front of those that it has
pub index_more :
    (texts : List Included) (n : ℕ) (d : Included) (old new : BTreeMap (List ℕ) ℕ) → 0 < n → n ≤ length texts
    → Updates (slice_cmp nat_cmp) old new (get_or texts (n - 1) d).path (Some (n - 1))
    → ((path : List ℕ) → get_by (slice_cmp nat_cmp path) old ≡ place_from n (drop n texts) path)
    → (path : List ℕ) → get_by (slice_cmp nat_cmp path) new ≡ place_from (n - 1) (drop (n - 1) texts) path
index_more texts n d old new a h u f path =
    let t = get_or texts (n - 1) d in
    let q : n - 1 + 1 ≡ n = omega arith in
    let e : drop (n - 1) texts ≡ t ∷ drop n texts = drop_more texts (n - 1) d (omega arith) ∙ ap (λ (m : ℕ). t ∷ drop m texts) q in
    u.0 path
    ∙ ap (λ (b : Bool). if b then Some (n - 1) else get_by (slice_cmp nat_cmp path) old) (sym (texts_ties t.path path))
    ∙ ap (λ (o : Option ℕ). if is_same t.path path then Some (n - 1) else o) (f path)
    ∙ ap (λ (m : ℕ). if is_same t.path path then Some (n - 1) else place_from m (drop n texts) path) (sym q)
    ∙ ap (λ (z : List Included). place_from (n - 1) z path) (sym e)
