-- How the row grows.
use Rattle.std.proofs.Common.{◌≡◌, ◌≢◌, ℕ, suc, ◌+◌, ◌<◌, ◌==◌, Bool, true, false, if◌then◌else◌, List, [], ◌∷◌, ◌++◌, length, get_or, replicate, Some, refl, sym, ap, subst, ◌∙◌, append_assoc, arith}
use Rattle.std.proofs.Math.ListN.{set}
use Rattle.std.specs.Prelude.{slice_get}
use Rattle.std.specs.List.{Contains}
use Rattle.std.proofs.lemmas.List.{append-nil, length-append, length-map, length-replicate, get_or-replicate, length-set, get_or-set_same, get_or-set_other}
use Rattle.std.proofs.lemmas.Option.{same_Some, slice_get_within}
use Rattle.inf_text.specs.declared.span.Span.{Span}
use Rattle.limbo_tree.specs.declared.source.Top.{Top}
use Rattle.limbo_tree.specs.declared.source.Top.TheVariants.{Include}
use Rattle.limbo_includes.specs.declared.included.Included.{Included}
use Rattle.limbo_includes.specs.declared.fault.IncludeFault.{IncludeFault}
use Rattle.limbo_includes.specs.declared.fault.IncludeFault.TheVariants as fault
use Rattle.limbo_includes.specs.declared.row.Seen.{Seen}
use Rattle.limbo_includes.specs.declared.row.Seen.TheVariants as seen
use Rattle.limbo_includes.specs.declared.row.Row.{Row}
use Rattle.limbo_includes.specs.Shelf.{place_of}
use Rattle.limbo_includes.specs.Includes.{target, tops_at, Given, Leads, to_given, to_included, IsTooDeep, LacksAt, IsWhole, IsTwice, Standing, is_include, Flattens, nothing, declaration, text, IsDoubled}
use Rattle.limbo_includes.specs.Refusals.{IfTooDeep, IfNoInclude, IfTwice}
use Rattle.limbo_includes.specs.Laying.{IsSeen, AreSeen, IsLaid, Blames, mark_of, source_of}
use Rattle.limbo_includes.specs.View.{view_row, view_standing}
use Rattle.limbo_includes.proofs.Flattening.{flat_join, flat_split, flat_one, flat_text, flat_only, whole_has_row}
use Rattle.limbo_includes.proofs.Places.{is_there, IsThere}

-- ---- what holds of a row holds of a longer one

doubled_more : (included : List Included) (row more : List Standing) → IsDoubled included row → IsDoubled included (row ++ more)
doubled_more included row more d = record {
  path = d.path;
  tops = d.tops;
  front = d.front;
  inner = d.inner;
  middle = d.middle;
  back = d.back ++ more;
  there = d.there;
  flat = d.flat;
  declares = d.declares;
  parts = ap (λ (z : List Standing). z ++ more) d.parts ∙ append_assoc (d.front ++ d.inner ++ d.middle ++ d.inner) d.back more;
}

seen_more : (included : List Included) (t : Included) (row more : List Standing) (s : Seen) → IsSeen included t row s → IsSeen included t (row ++ more) s
seen_more included t row more seen.NotYet i = tt
seen_more included t row more seen.Empty i = i
seen_more included t row more seen.Full i = record {
  front = i.front;
  inner = i.inner;
  back = i.back ++ more;
  flat = i.flat;
  declares = i.declares;
  parts = ap (λ (z : List Standing). z ++ more) i.parts ∙ append_assoc (i.front ++ i.inner) i.back more;
}

are_seen_more :
    (included : List Included) (old new : Row) (more : List Standing) → view_row new.out.items ≡ view_row old.out.items ++ more
    → new.seen.items ≡ old.seen.items → AreSeen included old → AreSeen included new
are_seen_more included old new more e s a = record {
  same_length = ap length s ∙ a.same_length;
  each = λ n t h.
      subst (λ (z : List Standing). IsSeen included t z (get_or new.seen.items n seen.NotYet)) (sym e)
      (seen_more included t (view_row old.out.items) more (get_or new.seen.items n seen.NotYet)
      (subst (λ (z : List Seen). IsSeen included t (view_row old.out.items) (get_or z n seen.NotYet)) (sym s) (a.each n t h)));
}

-- ---- steps

pub laid_none : (included : List Included) (path : List ℕ) (row : Row) → AreSeen included row → IsLaid included path [] row row
laid_none included path row a = record { inner = []; flat = nothing path; parts = sym (append-nil (view_row row.out.items)); seen = a }

pub laid_one :
    (included : List Included) (path : List ℕ) (top : Top) (old new : Row) → is_include top ≡ false
    → view_row new.out.items ≡ view_row old.out.items ++ (record { path = path; top = top } ∷ []) → new.seen.items ≡ old.seen.items
    → AreSeen included old → IsLaid included path (top ∷ []) old new
laid_one included path top old new n e s a = record {
  inner = record { path = path; top = top } ∷ [];
  flat = declaration path top [] [] n (nothing path);
  parts = e;
  seen = are_seen_more included old new (record { path = path; top = top } ∷ []) e s a;
}

pub laid_more :
    (included : List Included) (path : List ℕ) (xs ys : List Top) (old mid new : Row)
    → IsLaid included path xs old mid → IsLaid included path ys mid new → IsLaid included path (xs ++ ys) old new
laid_more included path xs ys old mid new a b = record {
  inner = a.inner ++ b.inner;
  flat = flat_join included path xs ys a.inner b.inner a.flat b.flat;
  parts = b.parts ∙ ap (λ (z : List Standing). z ++ b.inner) a.parts ∙ append_assoc (view_row old.out.items) a.inner b.inner;
  seen = b.seen;
}

-- a refusal at a part of a text is one of the text
pub blames_part :
    (included : List Included) (depth : ℕ) (path : List ℕ) (xs ys : List Top) (x : Top) (old mid : Row) (e : IncludeFault)
    → (AreSeen included old → IsLaid included path xs old mid)
    → Blames included depth path (xs ++ (x ∷ ys)) (x ∷ []) mid e → Blames included depth path (xs ++ (x ∷ ys)) (xs ++ (x ∷ ys)) old e
blames_part included depth path xs ys x old mid fault.NoMemory l b = tt
blames_part included depth path xs ys x old mid (fault.NoInclude p at) l b = b
blames_part included depth path xs ys x old mid (fault.Twice p at) l b = λ a all f.
    let k = l a in
    let s = flat_split included path xs (x ∷ ys) all f in
    let r = flat_split included path (x ∷ []) ys s.right s.flat_right in
    let i : s.left ≡ k.inner = flat_one included path xs s.left k.inner s.flat_left k.flat in
    let d : IsDoubled included (view_row mid.out.items ++ r.left) = b k.seen r.left r.flat_left in
    let o = view_row old.out.items in
    let w : (view_row mid.out.items ++ r.left) ++ r.right ≡ o ++ all =
    ap (λ (z : List Standing). (z ++ r.left) ++ r.right) k.parts
    ∙ append_assoc (o ++ k.inner) r.left r.right
    ∙ append_assoc o k.inner (r.left ++ r.right)
    ∙ ap (λ (z : List Standing). o ++ (k.inner ++ z)) (sym r.whole)
    ∙ ap (λ (z : List Standing). o ++ (z ++ s.right)) (sym i)
    ∙ ap (λ (z : List Standing). o ++ z) (sym s.whole) in
    subst (λ (z : List Standing). IsDoubled included z) w (doubled_more included (view_row mid.out.items ++ r.left) r.right d)
blames_part included depth path xs ys x old mid fault.TooDeep l b = b

-- ---- an include

module _ (included : List Included) (path name : List ℕ) (at : Span) (k : ℕ) (place : place_of included (target path name) ≡ Some k) where
  there : IsThere included (target path name) k
  there = is_there included (target path name) k place

  pub shelved : (t : Included) → slice_get included k ≡ Some t → (t.path ≡ target path name) × (tops_at included (target path name) ≡ Some t.tree.tops.items)
  shelved t e =
      let q : t ≡ there.text = same_Some t there.text (sym e ∙ there.there) in
      (ap (λ (z : Included). z.path) q ∙ there.same_path, there.tops ∙ ap (λ (z : Included). Some z.tree.tops.items) (sym q))

  module _ (t : Included) (e : slice_get included k ≡ Some t) where
    -- what the text flattens to is what the include does
    flat_here : (row : List Standing) → Flattens included t.path t.tree.tops.items row → Flattens included (target path name) t.tree.tops.items row
    flat_here row f = subst (λ (z : List ℕ). Flattens included z t.tree.tops.items row) (shelved t e).0 f

    flat_include : (row : List Standing) → Flattens included t.path t.tree.tops.items row → Flattens included path (Include name at ∷ []) row
    flat_include row f =
        subst (λ (z : List Standing). Flattens included path (Include name at ∷ []) z) (append-nil row)
        (text path name at [] t.tree.tops.items row [] (shelved t e).1 (flat_here row f) (nothing path))

    include_is : (row all : List Standing) → Flattens included t.path t.tree.tops.items row → Flattens included path (Include name at ∷ []) all → all ≡ row
    include_is row all f g = flat_text included path name at t.tree.tops.items row all (shelved t e).1 (flat_here row f) g

    -- it was laid out, and flattens to nothing
    pub laid_empty : (row : Row) → AreSeen included row → get_or row.seen.items k seen.NotYet ≡ seen.Empty → IsLaid included path (Include name at ∷ []) row row
    laid_empty row a s =
        let f : IsSeen included t (view_row row.out.items) seen.Empty = subst (λ (z : Seen). IsSeen included t (view_row row.out.items) z) s (a.each k t e) in
        record { inner = []; flat = flat_include [] f; parts = sym (append-nil (view_row row.out.items)); seen = a }

    -- it was laid out, and declares something
    pub twice_full :
        (row : Row) → get_or row.seen.items k seen.NotYet ≡ seen.Full
        → AreSeen included row → (all : List Standing) → Flattens included path (Include name at ∷ []) all → IsDoubled included (view_row row.out.items ++ all)
    twice_full row s a all f =
        let i : IsSeen included t (view_row row.out.items) seen.Full = subst (λ (z : Seen). IsSeen included t (view_row row.out.items) z) s (a.each k t e) in
        let q : all ≡ i.inner = include_is i.inner all i.flat f in
        record {
          path = t.path;
          tops = t.tree.tops.items;
          front = i.front;
          inner = i.inner;
          middle = i.back;
          back = [];
          there = subst (λ (z : List ℕ). tops_at included z ≡ Some t.tree.tops.items) (sym (shelved t e).0) (shelved t e).1;
          flat = i.flat;
          declares = i.declares;
          parts = ap (λ (z : List Standing). view_row row.out.items ++ z) q ∙ ap (λ (z : List Standing). z ++ i.inner) i.parts ∙ sym (append-nil (i.front ++ i.inner ++ i.back ++ i.inner));
        }

    -- it is laid out now
    pub laid_text :
        (old mid new : Row) → IsLaid included t.path t.tree.tops.items old mid → new.out.items ≡ mid.out.items
        → new.seen.items ≡ set mid.seen.items k (mark_of (length old.out.items) (length mid.out.items))
        → IsLaid included path (Include name at ∷ []) old new
    laid_text old mid new l o s = record {
      inner = l.inner;
      flat = flat_include l.inner l.flat;
      parts = ap view_row o ∙ l.parts;
      seen = record {
        same_length = ap length s ∙ length-set mid.seen.items k mark ∙ l.seen.same_length;
        each = λ n u h.
            subst (λ (z : List Standing). IsSeen included u z (get_or new.seen.items n seen.NotYet)) (ap view_row (sym o))
            (subst (λ (z : List Seen). IsSeen included u (view_row mid.out.items) (get_or z n seen.NotYet)) (sym s) (each n u h));
      };
    }
      where
        mark : Seen
        mark = mark_of (length old.out.items) (length mid.out.items)

        lengths : length mid.out.items ≡ length old.out.items + length l.inner
        lengths =
            sym (length-map mid.out.items view_standing) ∙ ap length l.parts ∙ length-append (view_row old.out.items) l.inner
            ∙ ap (λ (z : ℕ). z + length l.inner) (length-map old.out.items view_standing)

        none : (xs : List Standing) → length xs ≡ 0 → xs ≡ []
        none [] q = refl
        none (x ∷ xs) q = absurd (omega arith)

        own : (b : Bool) → (length mid.out.items == length old.out.items) ≡ b → IsSeen included t (view_row mid.out.items) (if b then seen.Empty else seen.Full)
        own true q =
            let z : length l.inner ≡ 0 = grind (arith, lengths, q) in
            subst (λ (x : List Standing). Flattens included t.path t.tree.tops.items x) (none l.inner z) l.flat
        own false q = record {
          front = view_row old.out.items;
          inner = l.inner;
          back = [];
          flat = l.flat;
          declares = λ z.
              let y : length l.inner ≡ 0 = ap length z in
              absurd (grind (arith, lengths, q));
          parts = l.parts ∙ sym (append-nil (view_row old.out.items ++ l.inner));
        }

        pick : (n : ℕ) (u : Included) → slice_get included n ≡ Some u → (b : Bool) → (n == k) ≡ b → IsSeen included u (view_row mid.out.items) (get_or (set mid.seen.items k mark) n seen.NotYet)
        pick n u h true q =
            let w : n ≡ k = grind (arith, q) in
            let v : u ≡ t = same_Some u t (sym h ∙ ap (slice_get included) w ∙ e) in
            let m : k < length mid.seen.items = (let x = slice_get_within included k t e in let y = l.seen.same_length in omega arith) in
            let g : get_or (set mid.seen.items k mark) n seen.NotYet ≡ mark = ap (λ (z : ℕ). get_or (set mid.seen.items k mark) z seen.NotYet) w ∙ get_or-set_same mid.seen.items k mark seen.NotYet m in
            subst (λ (z : Included). IsSeen included z (view_row mid.out.items) (get_or (set mid.seen.items k mark) n seen.NotYet)) (sym v)
            (subst (λ (z : Seen). IsSeen included t (view_row mid.out.items) z) (sym g) (own (length mid.out.items == length old.out.items) refl))
        pick n u h false q =
            let w : n ≢ k = λ z. absurd (grind (arith, q, z)) in
            subst (λ (z : Seen). IsSeen included u (view_row mid.out.items) z) (sym (get_or-set_other mid.seen.items k n mark seen.NotYet w)) (l.seen.each n u h)

        each : (n : ℕ) (u : Included) → slice_get included n ≡ Some u → IsSeen included u (view_row mid.out.items) (get_or (set mid.seen.items k mark) n seen.NotYet)
        each n u h = pick n u h (n == k) refl

    leads_on :
        (depth : ℕ) (whole : List Top) → Contains whole (Include name at) → (first : List ℕ) (source : List Top)
        → Leads (source_of first source included) depth path whole → Leads (source_of first source included) (depth + 1) t.path t.tree.tops.items
    leads_on depth whole c first source l =
        let g = source_of first source included in
        let m : Leads g (suc depth) (target path name) t.tree.tops.items = to_included depth path name at whole t.tree.tops.items l c (shelved t e).1 in
        let q : suc depth ≡ depth + 1 = omega arith in
        subst (λ (z : ℕ). Leads g z t.path t.tree.tops.items) q (subst (λ (z : List ℕ). Leads g (suc depth) z t.tree.tops.items) (sym (shelved t e).0) m)

    -- a refusal in the text is one at the include
    pub blames_include :
        (depth : ℕ) (whole : List Top) (row : Row) (f : IncludeFault) → Contains whole (Include name at)
        → Blames included (depth + 1) t.path t.tree.tops.items t.tree.tops.items row f → Blames included depth path whole (Include name at ∷ []) row f
    blames_include depth whole row fault.NoMemory c b = tt
    blames_include depth whole row (fault.NoInclude p a) c b = λ first source l. b first source (leads_on depth whole c first source l)
    blames_include depth whole row (fault.Twice p a) c b = λ s all g.
        b s all (subst (λ (z : List ℕ). Flattens included z t.tree.tops.items all) (sym (shelved t e).0) (flat_only included path name at t.tree.tops.items all (shelved t e).1 g))
    blames_include depth whole row fault.TooDeep c b = λ first source l. b first source (leads_on depth whole c first source l)

-- nothing was laid out yet
pub none_seen : (included : List Included) (row : Row) → row.seen.items ≡ replicate (length included) seen.NotYet → AreSeen included row
none_seen included row e = record {
  same_length = ap length e ∙ length-replicate (length included) seen.NotYet;
  each = λ n t h.
      subst (λ (z : Seen). IsSeen included t (view_row row.out.items) z)
      (sym (ap (λ (z : List Seen). get_or z n seen.NotYet) e ∙ get_or-replicate (length included) n seen.NotYet seen.NotYet (slice_get_within included n t h))) tt;
}

-- ---- what a refusal says of the given source

module _ (g : Given) (row : Row) where
  pub blames_deep : (e : IncludeFault) → Blames g.included 0 g.path g.source g.source row e → IfTooDeep e (IsTooDeep g)
  blames_deep fault.NoMemory b = tt
  blames_deep (fault.NoInclude p at) b = tt
  blames_deep (fault.Twice p at) b = tt
  blames_deep fault.TooDeep b = b g.path g.source to_given

  pub blames_lacks : (e : IncludeFault) → Blames g.included 0 g.path g.source g.source row e → IfNoInclude e (λ p at. LacksAt g p at)
  blames_lacks fault.NoMemory b = tt
  blames_lacks (fault.NoInclude p at) b = b g.path g.source to_given
  blames_lacks (fault.Twice p at) b = tt
  blames_lacks fault.TooDeep b = tt

  pub blames_twice :
      (e : IncludeFault) → IsWhole g → row.out.items ≡ [] → row.seen.items ≡ replicate (length g.included) seen.NotYet
      → Blames g.included 0 g.path g.source g.source row e → IfTwice e (IsTwice g)
  blames_twice fault.NoMemory w o s b = tt
  blames_twice (fault.NoInclude p at) w o s b = tt
  blames_twice (fault.Twice p at) w o s b =
      let r = whole_has_row g w in
      record {
        row = r.0;
        flat = r.1;
        doubled = subst (λ (z : List Standing). IsDoubled g.included (z ++ r.0)) (ap view_row o) (b (none_seen g.included row s) r.0 r.1);
      }
  blames_twice fault.TooDeep w o s b = tt
