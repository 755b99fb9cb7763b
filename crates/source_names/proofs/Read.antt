-- What the files tell of the texts that were read: they are all that a source includes.
use Rattle.std.proofs.Common.{◌≡◌, ◌≤◌, inl, inr, ℕ, zero, suc, List, [], ◌∷◌, refl, sym, ap, subst, ◌∙◌, arith}
use Rattle.std.specs.List.{Contains}
use Rattle.inf_ports.specs.Outside.{Told}
use Rattle.inf_text.specs.declared.span.Span.{Span}
use Rattle.limbo_tree.specs.Sources as sources
use Rattle.limbo_tree.specs.declared.source.Source as code_source
use Rattle.limbo_tree.specs.declared.source.Top.{Top}
use Rattle.limbo_tree.specs.declared.source.Top.TheVariants.{Include, Declare, Define}
use Rattle.limbo_includes.specs.declared.included.Included.{Included}
use Rattle.limbo_includes.specs.Includes as code
use Rattle.limbo_includes.specs.Includes.{target, to_given}
use Rattle.limbo_includes.specs.View.{given}
use Rattle.limbo_includes.proofs.Lists.{contains_there}
use Rattle.source_files.specs.Files.{IsSpelled, IsMissing}
use Rattle.source_files.specs.Reading.{IsReachable}
use Rattle.source_files.proofs.Readers.{named_include}
use Rattle.source_names.specs.Included as by_files
use Rattle.source_names.specs.Included.{AreTold, AreTexts, IsIncluded, IsTooDeep}
use Rattle.source_names.specs.View.{AreRead}
use Rattle.source_names.proofs.Texts.{tops_view, text_there, target_named, included_told}
use Rattle.source_names.proofs.Told.{one_text, not_missing}

-- the include of the code
seen_include : (tops : List Top) (name : List ℕ) → Contains (tops_view tops) (sources.Include name) → (at : Span) × Contains tops (Include name at)
seen_include [] name c = let l = c.1 in absurd (omega arith)
seen_include (Include n s ∷ tops) name (zero, l, e) =
    let same : n ≡ name = cc in (s, (zero, omega arith, ap (λ (z : List ℕ). Include z s) same))
seen_include (Declare d ∷ tops) name (zero, l, e) = absurd cc
seen_include (Define f ∷ tops) name (zero, l, e) = absurd cc
seen_include (t ∷ tops) name (suc k, l, e) =
    let i = seen_include tops name (k, omega arith, e) in (i.0, contains_there t (Include name i.0) tops i.1)

-- what the code has of a text that includes lead to
record IsSeen (first : List ℕ) (source : code_source.Source) (texts : List Included) (n : ℕ) (path : List ℕ) (tops : List sources.Top) : Type 0 where
  inner : List Top
  leads : code.Leads (given first source texts) n path inner
  same : tops ≡ tops_view inner

module _ (told : Told) (t : AreTold told) (first : List ℕ) (source : code_source.Source) (texts : List Included) (r : AreRead told first source texts) where
  abbrev tops_of_source : List sources.Top
  tops_of_source = tops_view source.tops.items

  leads_seen : (n : ℕ) (path : List ℕ) (tops : List sources.Top) → by_files.Leads told first tops_of_source n path tops → n ≤ 16 → IsSeen first source texts n path tops
  leads_seen _ _ _ by_files.to_source l = record { inner = source.tops.items; leads = to_given; same = refl }
  leads_seen _ _ _ (by_files.to_included n path name tops tree k c s) l =
      let i = leads_seen n path tops k (omega arith) in
      let x = seen_include i.inner name (subst (λ (z : List sources.Top). Contains z (sources.Include name)) i.same c) in
      elim (r.whole n path i.inner (target path name) i.leads (omega arith) (target_named path i.inner name x.0 x.1)) [
        | inl there ↦
            let y = text_there told first source.tops.items texts r.named (target path name) there.0 there.1 in
            let same = one_text told t (target path name) tree y.tree s y.spelled in
            record {
              inner = there.0;
              leads = code.to_included n path name x.0 i.inner there.0 i.leads x.1 there.1;
              same = ap (λ (z : sources.Source). z.tops) same ∙ y.tops;
            }
        | inr missing ↦ absurd (not_missing told t (target path name) tree s missing)
      ]

  pub deep_seen : IsTooDeep told first tops_of_source → code.IsTooDeep (given first source texts)
  deep_seen d =
      let i = leads_seen 16 d.path d.tops d.leads (omega arith) in
      let x = seen_include i.inner d.name (subst (λ (z : List sources.Top). Contains z (sources.Include d.name)) i.same d.stands) in
      record { path = d.path; tops = i.inner; name = d.name; at = x.0; leads = i.leads; stands = x.1 }

  pub are_texts : AreTexts told first tops_of_source
  are_texts q k =
      let above = k.above in
      let i = leads_seen k.depth k.path k.tops k.leads (omega arith) in
      let x = seen_include i.inner k.name (subst (λ (z : List sources.Top). Contains z (sources.Include k.name)) i.same k.stands) in
      elim (r.whole k.depth k.path i.inner (target k.path k.name) i.leads k.above (target_named k.path i.inner k.name x.0 x.1)) [
        | inl there ↦
            let y = text_there told first source.tops.items texts r.named (target k.path k.name) there.0 there.1 in
            inl (y.tree, subst (λ (z : List ℕ). IsSpelled told z y.tree) (sym k.names) y.spelled)
        | inr missing ↦ inr (subst (λ (z : List ℕ). IsMissing told z) (sym k.names) missing)
      ]

-- a text of which a refusal is told is included
pub reachable : (told : Told) (first : List ℕ) (source : List Top) (q : List ℕ) → IsReachable told first source q → IsIncluded told first (tops_view source) q
reachable told first source q r =
    let i = named_include r.reached.path r.reached.tops q r.reached.named in
    subst (λ (z : List ℕ). IsIncluded told first (tops_view source) z) (sym i.is)
    (included_told told first source r.included r.read r.reached.depth r.reached.path r.reached.tops i.name i.at r.reached.leads r.reached.above i.stands)
