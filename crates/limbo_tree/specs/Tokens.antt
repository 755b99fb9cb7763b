-- Tokens as the grammar spells them. A spelling is said of a tree and of the tokens that follow it, so that one spelling
-- stands before another with no appending: `spell_x x ts` is the tokens of x, and then ts.
use Rattle.std.specs.Prelude.{ℕ, List, [], ◌∷◌, Bool, true, false, Option, None, Some}
use Rattle.limbo_lexer.specs.declared.token.Kind.{Kind}
use Rattle.limbo_lexer.specs.declared.token.Kind.TheVariants as kind
use Rattle.limbo_lexer.specs.declared.token.Mark.{Mark}
use Rattle.limbo_lexer.specs.declared.token.Mark.TheVariants as mark
use Rattle.limbo_lexer.specs.declared.token.Key.{Key}
use Rattle.limbo_lexer.specs.declared.token.Key.TheVariants as key

-- a sign, and then the rest
infixr 20 ◌▸◌
abbrev pub ◌▸◌ : Mark → List Kind → List Kind
m ▸ ts = kind.Mark m ∷ ts

-- a keyword, and then the rest
infixr 20 ◌▹◌
abbrev pub ◌▹◌ : Key → List Kind → List Kind
k ▹ ts = kind.Key k ∷ ts

-- ID
abbrev pub spell_name : List ℕ → List Kind → List Kind
spell_name n ts = kind.Name n ∷ ts

-- [ID]
abbrev pub spell_label : Option (List ℕ) → List Kind → List Kind
spell_label None ts = ts
spell_label (Some n) ts = kind.Name n ∷ ts

-- [ID ":"]
abbrev pub spell_mark_label : Option (List ℕ) → List Kind → List Kind
spell_mark_label None ts = ts
spell_mark_label (Some n) ts = kind.Name n ∷ (mark.Colon ▸ ts)

-- {"," ID}
abbrev pub spell_more_names : List (List ℕ) → List Kind → List Kind
spell_more_names [] ts = ts
spell_more_names (n ∷ ns) ts = mark.Comma ▸ kind.Name n ∷ spell_more_names ns ts

-- ids = ID {"," ID}
abbrev pub spell_names : List (List ℕ) → List Kind → List Kind
spell_names [] ts = ts
spell_names (n ∷ ns) ts = kind.Name n ∷ spell_more_names ns ts

-- {"or" ID}
abbrev pub spell_other_names : List (List ℕ) → List Kind → List Kind
spell_other_names [] ts = ts
spell_other_names (n ∷ ns) ts = key.Or ▹ kind.Name n ∷ spell_other_names ns ts

-- ID {"or" ID}
abbrev pub spell_choices : List (List ℕ) → List Kind → List Kind
spell_choices [] ts = ts
spell_choices (n ∷ ns) ts = kind.Name n ∷ spell_other_names ns ts

-- a list has a first element
abbrev pub is_some : {A : Type 0} → List A → Bool
is_some [] = false
is_some (x ∷ xs) = true
