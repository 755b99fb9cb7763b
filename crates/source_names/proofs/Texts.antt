-- What the texts of the code say of the files.
use Rattle.std.proofs.Common.{◌≡◌, ◌≢◌, ◌<◌, ◌≤◌, ◌+◌, ◌-◌, ◌⊎◌, inl, inr, ℕ, zero, suc, List, [], ◌∷◌, ◌++◌, map, None, Some, false, refl, sym, ap, subst, ◌∙◌, arith}
use Rattle.std.specs.Prelude.{slice_get}
use Rattle.std.specs.List.{Contains}
use Rattle.std.proofs.lemmas.List.{map-append}
use Rattle.std.proofs.lemmas.Option.{slice_get_within, get_or_from_slice_get}
use Rattle.inf_ports.specs.Outside.{Told}
use Rattle.inf_text.specs.declared.span.Span.{Span}
use Rattle.limbo_tree.specs.Sources as sources
use Rattle.limbo_tree.specs.View.{view_top, view_source}
use Rattle.limbo_tree.specs.declared.source.Source as code_source
use Rattle.limbo_tree.specs.declared.source.Top.{Top}
use Rattle.limbo_tree.specs.declared.source.Top.TheVariants.{Include, Declare, Define}
use Rattle.limbo_includes.specs.declared.included.Included.{Included}
use Rattle.limbo_includes.specs.declared.included.Standing as code_standing
use Rattle.limbo_includes.specs.Includes as code
use Rattle.limbo_includes.specs.Includes.{target, tops_at, Given, Standing, to_given, LacksAt, IsWhole, IsTwice, nothing, declaration, text}
use Rattle.limbo_includes.specs.View.{given, view_row}
use Rattle.limbo_includes.specs.Refusals.{Says, IfNoInclude, IfTwice, IfTooDeep}
use Rattle.limbo_includes.specs.declared.fault.IncludeFault.{IncludeFault}
use Rattle.limbo_includes.specs.declared.fault.IncludeFault.TheVariants as fault
use Rattle.limbo_includes.proofs.Deep.{shallow}
use Rattle.limbo_includes.proofs.Lists.{contains_here, contains_there}
use Rattle.limbo_top.specs.Tops.{Placed}
use Rattle.limbo_top.specs.View.{placed}
use Rattle.source_files.specs.Files.{IsSpelled}
use Rattle.source_files.specs.Reading.{IsRead, targets}
use Rattle.source_files.proofs.Readers.{tops_of}
use Rattle.source_names.specs.Included as by_files
use Rattle.source_names.specs.Included.{Flattens, IsTooDeep, IsDoubled, Lacks}
use Rattle.source_names.specs.View.{AreRead}

abbrev pub tops_view : List Top → List sources.Top
tops_view tops = map view_top tops

-- ---- lists

contained : {A : Type 0} (xs : List A) (k : ℕ) (x : A) → slice_get xs k ≡ Some x → Contains xs x
contained xs k x h = (k, slice_get_within xs k x h, get_or_from_slice_get xs k x x h)

pub include_seen : (tops : List Top) (name : List ℕ) (at : Span) → Contains tops (Include name at) → Contains (tops_view tops) (sources.Include name)
include_seen [] name at c = let l = c.1 in absurd (omega arith)
include_seen (t ∷ tops) name at (zero, l, e) = (zero, omega arith, ap view_top e)
include_seen (t ∷ tops) name at (suc k, l, e) =
    contains_there (view_top t) (sources.Include name) (tops_view tops) (include_seen tops name at (k, omega arith, e))

pub target_named : (path : List ℕ) (tops : List Top) (name : List ℕ) (at : Span) → Contains tops (Include name at) → Contains (targets path tops) (target path name)
target_named path [] name at c = let l = c.1 in absurd (omega arith)
target_named path (Include n s ∷ tops) name at (zero, l, e) =
    let same : n ≡ name = cc in (zero, omega arith, ap (λ (z : List ℕ). target path z) same)
target_named path (Declare d ∷ tops) name at (zero, l, e) = absurd cc
target_named path (Define f ∷ tops) name at (zero, l, e) = absurd cc
target_named path (Include n s ∷ tops) name at (suc k, l, e) =
    contains_there (target path n) (target path name) (targets path tops) (target_named path tops name at (k, omega arith, e))
target_named path (Declare d ∷ tops) name at (suc k, l, e) = target_named path tops name at (k, omega arith, e)
target_named path (Define f ∷ tops) name at (suc k, l, e) = target_named path tops name at (k, omega arith, e)

-- ---- the texts

-- a text that was read, at its path
pub record IsThere (told : Told) (q : List ℕ) (inner : List Top) : Type 0 where
  pub tree : sources.Source
  pub spelled : IsSpelled told q tree
  pub tops : tree.tops ≡ tops_view inner

module _ (told : Told) (first : List ℕ) (source : List Top) (texts : List Included)
    (named : (t : Included) → Contains texts t → IsRead told (record { path = first; source = source; included = texts }) t) where
  abbrev own : Given
  own = record { path = first; source = source; included = texts }

  pub text_there : (q : List ℕ) (inner : List Top) → tops_at texts q ≡ Some inner → IsThere told q inner
  text_there q inner e =
      let t = tops_of texts q inner e in
      let r = named t.text (contained texts t.place t.text t.there) in
      record {
        tree = view_source t.text.tree;
        spelled = subst (λ (z : List ℕ). IsSpelled told z (view_source t.text.tree)) t.path r.spelled;
        tops = ap tops_view t.tops;
      }

  pub leads_told : (n : ℕ) (path : List ℕ) (tops : List Top) → code.Leads own n path tops → by_files.Leads told first (tops_view source) n path (tops_view tops)
  leads_told _ _ _ to_given = by_files.to_source
  leads_told _ _ _ (code.to_included n path name at tops inner l c e) =
      let t = text_there (target path name) inner e in
      subst (λ (z : List sources.Top). by_files.Leads told first (tops_view source) (suc n) (target path name) z) t.tops
      (by_files.to_included n path name (tops_view tops) t.tree (leads_told n path tops l) (include_seen tops name at c) t.spelled)

  pub deep_told : code.IsTooDeep own → IsTooDeep told first (tops_view source)
  deep_told d = record {
    path = d.path;
    tops = tops_view d.tops;
    name = d.name;
    leads = leads_told 16 d.path d.tops d.leads;
    stands = include_seen d.tops d.name d.at d.stands;
  }

  pub included_told : (depth : ℕ) (path : List ℕ) (tops : List Top) (name : List ℕ) (at : Span) → code.Leads own depth path tops → depth < 16
      → Contains tops (Include name at) → by_files.IsIncluded told first (tops_view source) (target path name)
  included_told depth path tops name at l a c = record {
    depth = depth;
    path = path;
    tops = tops_view tops;
    name = name;
    leads = leads_told depth path tops l;
    above = a;
    stands = include_seen tops name at c;
    names = refl;
  }

-- ---- the row

abbrev pub place : Standing → Placed
place s = record { path = s.path; top = view_top s.top }

pub row_placed : (ss : List code_standing.Standing) → map place (view_row ss) ≡ placed ss
row_placed [] = refl
row_placed (s ∷ ss) = ap (λ (z : List Placed). record { path = s.path.now; top = view_top s.top.now } ∷ z) (row_placed ss)

no_include_view : (t : Top) → code.is_include t ≡ false → by_files.is_include (view_top t) ≡ false
no_include_view (Include name at) e = absurd cc
no_include_view (Declare d) e = refl
no_include_view (Define f) e = refl

below : (depth : ℕ) → depth ≤ 16 → (depth ≡ 16) ⊎ (depth < 16)
below depth h = grind arith

module _ (told : Told) (first : List ℕ) (source : List Top) (texts : List Included)
    (named : (t : Included) → Contains texts t → IsRead told (record { path = first; source = source; included = texts }) t)
    (nested : code.IsTooDeep (record { path = first; source = source; included = texts }) → ⊥) where
  abbrev mine : Given
  mine = record { path = first; source = source; included = texts }

  -- what a text flattens to, if so many includes lead to it
  pub flat_told :
      (fuel n : ℕ) → fuel + n ≡ 16 → (path : List ℕ) (tops : List Top) → code.Leads mine n path tops
      → (ts : List Top) (row : List Standing) → code.Flattens texts path ts row
      → ((name : List ℕ) (at : Span) → Contains ts (Include name at) → Contains tops (Include name at))
      → Flattens told fuel path (tops_view ts) (map place row)
  flat_told fuel n e path tops l _ _ (nothing _) s = by_files.nothing fuel path
  flat_told fuel n e path tops l _ _ (declaration _ top ts rest i f) s =
      by_files.declaration fuel path (view_top top) (tops_view ts) (map place rest) (no_include_view top i)
      (flat_told fuel n e path tops l ts rest f (λ name at c. s name at (contains_there top (Include name at) ts c)))
  flat_told zero n e path tops l _ _ (text _ name at ts inner row rest h f g) s =
      absurd
      (nested
      (record {
        path = path;
        tops = tops;
        name = name;
        at = at;
        leads = subst (λ (z : ℕ). code.Leads mine z path tops) (let q : n ≡ 16 = omega arith in q) l;
        stands = s name at (contains_here (Include name at) ts);
      }))
  flat_told (suc fuel) n e path tops l _ _ (text _ name at ts inner row rest h f g) s =
      let t = text_there told first source texts named (target path name) inner h in
      let here = s name at (contains_here (Include name at) ts) in
      let deeper =
      flat_told fuel (suc n) (omega arith) (target path name) inner (code.to_included n path name at tops inner l here h) inner row f (λ m a c. c) in
      let later = flat_told (suc fuel) n e path tops l ts rest g (λ m a c. s m a (contains_there (Include name at) (Include m a) ts c)) in
      subst (λ (z : List Placed). Flattens told (suc fuel) path (tops_view (Include name at ∷ ts)) z) (sym (map-append place row rest))
      (by_files.text fuel path name t.tree (tops_view ts) (map place row) (map place rest) t.spelled
      (subst (λ (z : List sources.Top). Flattens told fuel (target path name) z (map place row)) (sym t.tops) deeper) later)

  pub whole_told : (row : List Standing) → code.Flattens texts first source row → Flattens told 16 first (tops_view source) (map place row)
  whole_told row f = flat_told 16 0 refl first source to_given source row f (λ name at c. c)

  less : (depth : ℕ) → depth ≤ 16 → (fuel : ℕ) × (fuel + depth ≡ 16)
  less depth l = (16 - depth, omega arith)

  nothing_mapped : (row : List Standing) → row ≢ [] → map place row ≢ []
  nothing_mapped [] f e = f refl
  nothing_mapped (s ∷ row) f e = absurd cc

  pub doubled_told : (row : List Standing) → code.IsDoubled texts row → IsDoubled told (map place row)
  doubled_told row d =
      let t = tops_of texts d.path d.tops d.there in
      let r = named t.text (contained texts t.place t.text t.there) in
      let k = less r.depth r.shallow in
      let leads : code.Leads mine r.depth d.path d.tops =
      subst (λ (z : List Top). code.Leads mine r.depth d.path z) t.tops
      (subst (λ (z : List ℕ). code.Leads mine r.depth z t.text.tree.tops.items) t.path r.leads) in
      let i = text_there told first source texts named d.path d.tops d.there in
      record {
        path = d.path;
        tree = i.tree;
        depth = k.0;
        front = map place d.front;
        inner = map place d.inner;
        middle = map place d.middle;
        back = map place d.back;
        there = i.spelled;
        flat = subst (λ (z : List sources.Top). Flattens told k.0 d.path z (map place d.inner)) (sym i.tops)
            (flat_told k.0 r.depth k.1 d.path d.tops leads d.tops d.inner d.flat (λ name at c. c));
        declares = nothing_mapped d.inner d.declares;
        parts = ap (λ (z : List Standing). map place z) d.parts
            ∙ map-append place (d.front ++ d.inner ++ d.middle ++ d.inner) d.back
            ∙ ap (λ (z : List Placed). z ++ map place d.back)
            (map-append place (d.front ++ d.inner ++ d.middle) d.inner
            ∙ ap (λ (z : List Placed). z ++ map place d.inner)
            (map-append place (d.front ++ d.inner) d.middle
            ∙ ap (λ (z : List Placed). z ++ map place d.middle) (map-append place d.front d.inner)));
      }

-- ---- refusals of includes

pub says_of : (g : Given) (e : IncludeFault) → IfTooDeep e (code.IsTooDeep g) → IfNoInclude e (λ p at. LacksAt g p at)
    → IfNoInclude e (λ p at. code.IsTooDeep g → ⊥) → IfTwice e (IsTwice g) → IfTwice e (IsWhole g) → Says g e
says_of g fault.NoMemory a b c d h = tt
says_of g (fault.NoInclude path at) a b c d h = (b, c)
says_of g (fault.Twice path at) a b c d h = (h, d)
says_of g fault.TooDeep a b c d h = a

pub lacks_told : (told : Told) (first : List ℕ) (source : code_source.Source) (texts : List Included) → AreRead told first source texts
    → (path : List ℕ) (at : Span) → LacksAt (given first source texts) path at → (code.IsTooDeep (given first source texts) → ⊥)
    → Lacks told first (tops_view source.tops.items)
lacks_told told first source texts r path at k nested =
    elim (below k.depth (shallow (given first source texts) nested k.depth path k.tops k.leads)) [
      | inl e ↦ absurd (nested (record {
        path = path;
        tops = k.tops;
        name = k.name;
        at = at;
        leads = subst (λ (z : ℕ). code.Leads (given first source texts) z path k.tops) e k.leads;
        stands = k.stands;
      }))
      | inr l ↦
          let named = target_named path k.tops k.name at k.stands in
          record {
            text = target path k.name;
            included = included_told told first source.tops.items texts r.named k.depth path k.tops k.name at k.leads l k.stands;
            missing = elim (r.whole k.depth path k.tops (target path k.name) k.leads l named) [
              | inl there ↦ absurd (let e : None ≡ Some there.0 = sym k.missing ∙ there.1 in cc)
              | inr missing ↦ missing
            ];
          }
    ]
