-- The first refusal of a text, which is kept to the end.
use Rattle.std.proofs.Common.{◌≡◌, ℕ, suc, ◌<◌, ◌≤◌, ◌⊎◌, inl, inr, List, Option, None, Some, IsSome, refl, sym, subst, arith}
use Rattle.std.specs.Prelude.{slice_get}
use Rattle.std.specs.Option.{IfSome}
use Rattle.std.specs.List.{Contains}
use Rattle.inf_ports.specs.Outside.{Told}
use Rattle.limbo_tree.specs.declared.source.Top.{Top}
use Rattle.limbo_includes.specs.declared.included.Included.{Included}
use Rattle.limbo_includes.specs.Includes.{tops_at, Leads, to_given}
use Rattle.source_files.specs.Files.{AtPath}
use Rattle.source_files.specs.declared.fault.FilesFault.{FilesFault}
use Rattle.source_files.specs.declared.reader.Reader.{Reader}
use Rattle.source_files.specs.Reading.{targets, depth_at, source_of, IsNamedBy, IsAnswered, Later, AsksAll}
use Rattle.source_files.specs.Levels.{IsSettled, IsClear, IsNamedAt, IsFirstKept, IsAmid}
use Rattle.source_files.proofs.Readers.{at_path_weaker, leads_more}

pub some_weaker : {X : Type 0} (o : Option X) (P Q : X → Type 0) → ((x : X) → P x → Q x) → IfSome o P → IfSome o Q
some_weaker None P Q f i = tt
some_weaker (Some x) P Q f i = f x i

settled_later :
    (told : Told) (old new : Reader) (q : List ℕ)
    → ((p : List ℕ) (x : List Top) → tops_at old.texts.items p ≡ Some x → tops_at new.texts.items p ≡ Some x)
    → IsSettled told old q → IsSettled told new q
settled_later told old new q f (inl (x, e)) = inl (x, f q x e)
settled_later told old new q f (inr m) = inr m

clear_later :
    (told : Told) (first : List ℕ) (source : List Top) (depth bound : ℕ) (old new : Reader) → depth ≤ bound → Later bound old new
    → IsClear told first source depth old → IsClear told first source depth new
clear_later told first source depth bound old new h l c = record {
  given = λ q b k. settled_later told old new q l.tops (c.given q b k);
  each = λ i t q e b k. elim (l.each i t e) [
    | inl s ↦ settled_later told old new q l.tops (c.each i t q s.there (let d = s.depth in omega arith) k)
    | inr n ↦ let d = n.at_depth in absurd (omega arith)
  ];
}

named_later :
    (first : List ℕ) (source : List Top) (depth : ℕ) (old new : Reader)
    → ((p : List ℕ) (x : List Top) → tops_at old.texts.items p ≡ Some x → tops_at new.texts.items p ≡ Some x)
    → (q : List ℕ) → IsNamedAt (source_of first source old) depth q → IsNamedAt (source_of first source new) depth q
named_later first source depth old new f q n = record {
  path = n.path;
  tops = n.tops;
  leads = leads_more first source old new f depth n.path n.tops n.leads;
  named = n.named;
}

-- what was kept stays so as more is read
first_later :
    (told : Told) (first : List ℕ) (source : List Top) (bound : ℕ) (old new : Reader) (e : FilesFault) → Later bound old new
    → IsFirstKept told first source bound old e → IsFirstKept told first source bound new e
first_later told first source bound old new e l k = record {
  depth = k.depth;
  above = k.above;
  clear = clear_later told first source k.depth bound old new (let b = k.above in omega arith) l k.clear;
  named = at_path_weaker (IsNamedAt (source_of first source old) k.depth) (IsNamedAt (source_of first source new) k.depth) e
      (named_later first source k.depth old new l.tops) k.named;
}

pub first_wider :
    (told : Told) (first : List ℕ) (source : List Top) (bound : ℕ) (r : Reader) (e : FilesFault)
    → IsFirstKept told first source bound r e → IsFirstKept told first source (suc bound) r e
first_wider told first source bound r e k = record {
  depth = k.depth;
  above = let b = k.above in omega arith;
  clear = k.clear;
  named = k.named;
}

within_or_past : (i end : ℕ) → (i < end) ⊎ (end ≤ i)
within_or_past i end = grind arith

-- where none was refused, all that less deep texts name is settled
amid_clear :
    (told : Told) (first : List ℕ) (source : List Top) (depth index end : ℕ) (r : Reader) → IsAmid told first source depth index end r
    → r.refused ≡ None → IsClear told first source depth r
amid_clear told first source depth index end r a none = record {
  given = λ q b k. settled q (a.reading.answered q (a.done.given.asked q k));
  each = λ i t q e b k. settled q (a.reading.answered q ((a.done.each i t (before i t e b (within_or_past i index) (within_or_past i end)) e).asked q k));
}
  where
    settled : (q : List ℕ) → IsAnswered told r q → IsSettled told r q
    settled q (inl s) = absurd (let b : IsSome {T = FilesFault} None = subst (λ (z : Option FilesFault). IsSome z) none s in cc)
    settled q (inr x) = x

    before :
        (i : ℕ) (t : Included) → slice_get r.texts.items i ≡ Some t → depth_at r i < depth → (i < index) ⊎ (index ≤ i)
        → (i < end) ⊎ (end ≤ i) → i < index
    before i t e b (inl h) x = h
    before i t e b (inr h) (inl x) = let d = a.middle i t e h x in absurd (omega arith)
    before i t e b (inr h) (inr x) = let d = a.last i t e x in absurd (omega arith)

-- what a text of the depth names may be the first that is refused
pub amid_blame :
    (told : Told) (first : List ℕ) (source : List Top) (depth index end : ℕ) (old new : Reader) → IsAmid told first source depth index end old
    → index < end → Later (suc depth) old new → ((e : FilesFault) → old.refused ≡ Some e → new.refused ≡ Some e)
    → (old.refused ≡ None → IfSome new.refused (AtPath (IsNamedBy old index)))
    → IfSome new.refused (IsFirstKept told first source (suc depth) new)
amid_blame told first source depth index end old new a h l firm fresh = pick old.refused refl
  where
    named : (q : List ℕ) → IsNamedBy old index q → IsNamedAt (source_of first source new) depth q
    named q (t, there, c) = record {
      path = t.path;
      tops = t.tree.tops.items;
      leads = leads_more first source old new l.tops depth t.path t.tree.tops.items
          (subst (λ (z : ℕ). Leads (source_of first source old) z t.path t.tree.tops.items) (a.middle index t there (omega arith) h)
          (a.reading.entry index t there).leads);
      named = c;
    }

    pick : (o : Option FilesFault) → old.refused ≡ o → IfSome new.refused (IsFirstKept told first source (suc depth) new)
    pick None s =
        some_weaker new.refused (AtPath (IsNamedBy old index)) (IsFirstKept told first source (suc depth) new)
        (λ e i. record {
          depth = depth;
          above = omega arith;
          clear = clear_later told first source depth (suc depth) old new (omega arith) l (amid_clear told first source depth index end old a s);
          named = at_path_weaker (IsNamedBy old index) (IsNamedAt (source_of first source new) depth) e named i;
        })
        (fresh s)
    pick (Some e) s =
        subst (λ (z : Option FilesFault). IfSome z (IsFirstKept told first source (suc depth) new)) (sym (firm e s))
        (first_later told first source (suc depth) old new e l
        (subst (λ (z : Option FilesFault). IfSome z (IsFirstKept told first source (suc depth) old)) s a.blame))

-- and so may what the given source names
pub source_blame :
    (told : Told) (first : List ℕ) (source : List Top) (named : List (List ℕ)) (old new : Reader) → old.refused ≡ None
    → named ≡ targets first source → AsksAll told named 1 old new → IfSome new.refused (IsFirstKept told first source 1 new)
source_blame told first source named old new none same a =
    some_weaker new.refused (AtPath (Contains named)) (IsFirstKept told first source 1 new)
    (λ e i. record {
      depth = 0;
      above = omega arith;
      clear = record { given = λ q b k. absurd (omega arith); each = λ i t q e b k. absurd (omega arith) };
      named = at_path_weaker (Contains named) (IsNamedAt (source_of first source new) 0) e
          (λ q c. record { path = first; tops = source; leads = to_given; named = subst (λ (z : List (List ℕ)). Contains z q) same c }) i;
    })
    (a.fresh none)
