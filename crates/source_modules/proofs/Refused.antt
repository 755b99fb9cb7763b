-- What is refused is no typed module, where its tree is one by the grammar.
use Rattle.std.proofs.Common.{ℕ, zero, suc, List, [], ◌∷◌, ◌++◌, inl, inr, false, subst, arith}
use Rattle.std.proofs.lemmas.List.Elements.{Contains-append_cases}
use Rattle.inf_ports.specs.Outside.{Told}
use Rattle.limbo_lexer.specs.declared.token.Kind.{Kind}
use Rattle.limbo_tree.specs.Sources.{Source, Top, AreTops, IsTop, IsTree}
use Rattle.limbo_declarations.specs.Rows.{rows_of_members}
use Rattle.limbo_top.specs.Tops.{Placed}
use Rattle.limbo_entries.specs.Entries.{Entry}
use Rattle.limbo_declare.specs.Declares.{Declares, numbered}
use Rattle.limbo_typed.specs.Typed.{Module}
use Rattle.limbo_modules.specs.limbo_source_context.SourceContext.{HaveParams}
use Rattle.limbo_modules.specs.Failing.{FailsModule}
use Rattle.limbo_modules.specs.Laws.{FailsOrModule}
use Rattle.source_names.specs.Included.{AreTold, Flattens, nothing, declaration, text}
use Rattle.source_names.specs.Laws.{RefusedDeclaresNothing}
use Rattle.source_modules.specs.Checked.{IsChecked}
use Rattle.source_modules.specs.Failing.{Fails, by_names, by_types}
use Rattle.source_modules.specs.Laws.{FailsOrChecked}
use Rattle.source_modules.proofs.Params.{AllTops, good_numbered, good_entry, function_good}
use Rattle.source_modules.proofs.Single.{same_scope}

-- ---- what stands at the top level is written as the grammar has it

no_tops : AllTops []
no_tops s (k, l, e) = absurd (omega (arith, l))

more_tops : (s : Placed) (ss : List Placed) → IsTop s.top → AllTops ss → AllTops (s ∷ ss)
more_tops s ss g f _ (zero, l, e) = subst (λ (z : Placed). IsTop z.top) e g
more_tops s ss g f x (suc k, l, e) = f x (k, omega (arith, l), e)

both_tops : (xs ys : List Placed) → AllTops xs → AllTops ys → AllTops (xs ++ ys)
both_tops xs ys f g s h = elim (Contains-append_cases xs ys s h) [ inl c ↦ f s c | inr c ↦ g s c ]

pub all_tops : (told : Told) (n : ℕ) (path : List ℕ) (tops : List Top) (row : List Placed) → Flattens told n path tops row → AreTops tops
    → AllTops row
all_tops told n path _ _ (nothing _ _) a = no_tops
all_tops told n path _ _ (declaration _ _ top tops rest i f) a =
    more_tops (record { path = path; top = top }) rest a.0 (all_tops told n path tops rest f a.1)
all_tops told n path _ _ (text k _ name tree tops row rest s f g) a =
    both_tops row rest (all_tops told k _ tree.tops row f s.has.parsed.formed) (all_tops told n path tops rest g a.1)

have_params : (name : List ℕ) (row : List Placed) (es : List Entry) (m : ℕ) → Declares name row es m → AllTops row → HaveParams es
have_params name row es m d all = λ k e f at is.
    let p = d.parts in
    let good = good_numbered (rows_of_members p.path p.members) row p.alone p.are_alone all in
    function_good e f (good_entry (numbered p) es d.numbers.table good k e at) is

-- ---- refusals

pub fails_or_checked : FailsOrModule → RefusedDeclaresNothing → FailsOrChecked
fails_or_checked modules names = λ told path tree number es m x t tokens is fails checked.
    go told path tree es m x t tokens is number fails checked
  where
    go : (told : Told) (path : List ℕ) (tree : Source) (es : List Entry) (m : ℕ) (x : Module) → AreTold told
        → (tokens : List Kind) → IsTree false tokens tree → (number : ℕ) → Fails told path tree number
        → IsChecked told path tree es m x → ⊥
    go told path tree es m x t tokens is _ (by_names r f) c =
        names told path tree r es m t f (record { name = c.name; row = c.row; has = c.has; declares = c.declares })
    go told path tree es m x t tokens is _ (by_types name row fs n k h d f) c =
        let fails = same_scope told t path tree (λ a v z j. FailsModule a v z j k) name c.name row c.row fs es n m h c.has d c.declares f in
        let all = all_tops told 16 path tree.tops c.row c.has.flat is.formed in
        modules c.name c.row (numbered c.declares.parts) es m k x c.declares.numbers.table c.declares.numbers.once
        (have_params c.name c.row es m c.declares all) fails c.is
