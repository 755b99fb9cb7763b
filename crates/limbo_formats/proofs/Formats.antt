-- What is read of a format is what it is written as, and what fits its arguments.
use Rattle.std.proofs.Common.{◌≡◌, ℕ, Bool, true, false, cond, List, [], ◌∷◌, ◌++◌, Option, Some, None, option_map, refl, sym, ap, subst, ◌∙◌}
use Rattle.std.proofs.Common.{append_assoc, Vec, Global, inl, inr}
use Rattle.std.specs.Prelude.{IfSome, IfNone}
use Rattle.std.specs.Prelude.{◌==◌, codes}
use Rattle.std.proofs.lemmas.Bool.{eqb-true}
use Rattle.limbo_values.specs.declared.number.Kind.TheVariants as kind
use Rattle.limbo_types.specs.Types as ty
use Rattle.limbo_types.specs.Types.{Ty}
use Rattle.limbo_typed.specs.declared.print.Hole.{Hole}
use Rattle.limbo_typed.specs.declared.print.Hole.TheVariants as hole
use Rattle.limbo_typed.specs.declared.print.Piece.{Piece}
use Rattle.limbo_typed.specs.declared.print.Piece.TheVariants as piece
use Rattle.limbo_forms.specs.Forms.{choose}
use Rattle.limbo_formats.specs.declared.format.Verb.{Verb}
use Rattle.limbo_formats.specs.declared.format.Verb.TheVariants.{Decimal, Big, Character, Hexadecimal}
use Rattle.limbo_formats.specs.declared.format.Verb.TheVariants as verb
use Rattle.limbo_formats.specs.declared.format.FormatPart.{FormatPart}
use Rattle.limbo_formats.specs.declared.format.FormatPart.TheVariants.{Chars, Error, Argument}
use Rattle.limbo_formats.specs.declared.format.Seen.{Seen}
use Rattle.limbo_formats.specs.declared.format.Seen.TheVariants.{Nothing, Percent, PercentB}
use Rattle.limbo_formats.specs.Formats.{written, escaped, all_escaped, spelling, HasSome, BeginsWithVerb, AreWhole, IsFormat}
use Rattle.limbo_formats.specs.Formats.{Takes, Fits, AskedAs, AllAskedAs}
use Rattle.limbo_typed.specs.Sound.{type_of_hole, holes}
use Rattle.limbo_formats.specs.Formats as fits
use Rattle.limbo_formats.specs.FormatReading.{verb_of, closed, added, parts, format_of}
use Rattle.limbo_formats.specs.FormatReading.{hole_for, fitted, IsRead, IsFitted}

-- ---- the same from the right to the left

-- a character before parts
put : ℕ → List FormatPart → List FormatPart
put c (Chars t ∷ ps) = Chars (c ∷ t) ∷ ps
put c ps = Chars (c ∷ []) ∷ ps

put_all : List ℕ → List FormatPart → List FormatPart
put_all [] ps = ps
put_all (c ∷ cs) ps = put c (put_all cs ps)

read : Seen → List ℕ → Option (List FormatPart)
read Nothing [] = Some []
read Percent [] = None
read PercentB [] = None
read Nothing (c ∷ more) = cond (c == 37) (read Percent more) (option_map (put c) (read Nothing more))
read Percent (c ∷ more) =
    cond (c == 37) (option_map (put 37) (read Nothing more))
    (cond (c == 98) (read PercentB more)
    (cond (c == 114) (option_map (λ ps. Error ∷ ps) (read Nothing more))
    (choose (verb_of c) None (λ v. option_map (λ ps. Argument v ∷ ps) (read Nothing more)))))
read PercentB (c ∷ more) = cond (c == 100) (option_map (λ ps. Argument Big ∷ ps) (read Nothing more)) None

put_verb : (c : ℕ) (ps : List FormatPart) → BeginsWithVerb ps → put c ps ≡ Chars (c ∷ []) ∷ ps
unfolding put
put_verb c [] h = refl
put_verb c (Chars t ∷ ps) h = absurd h
put_verb c (Error ∷ ps) h = refl
put_verb c (Argument v ∷ ps) h = refl

put_whole : (c : ℕ) (cs : List ℕ) (ps : List FormatPart) → BeginsWithVerb ps → put c (put_all cs ps) ≡ Chars (c ∷ cs) ∷ ps
unfolding put put_all
put_whole c [] ps h = put_verb c ps h
put_whole c (d ∷ ds) ps h = ap (put c) (put_whole d ds ps h)

put_last : (cs : List ℕ) (c : ℕ) (ps : List FormatPart) → put_all (cs ++ c ∷ []) ps ≡ put_all cs (put c ps)
unfolding put_all
put_last [] c ps = refl
put_last (d ∷ ds) c ps = ap (put d) (put_last ds c ps)

nothing_behind : {A : Type 0} (xs : List A) → xs ≡ xs ++ []
nothing_behind [] = refl
nothing_behind (x ∷ xs) = ap (λ ys. x ∷ ys) (nothing_behind xs)

closed_is : (ps : List FormatPart) (cs : List ℕ) → closed ps cs ≡ ps ++ put_all cs []
unfolding put_all
closed_is ps [] = nothing_behind ps
closed_is ps (c ∷ cs) = ap (λ qs. ps ++ qs) (sym (put_whole c cs [] tt))

added_is : (ps : List FormatPart) (cs : List ℕ) (p : FormatPart) (qs : List FormatPart) → BeginsWithVerb (p ∷ qs)
    → added ps cs p ++ qs ≡ ps ++ put_all cs (p ∷ qs)
unfolding put_all
added_is ps [] p qs h = append_assoc ps (p ∷ []) qs
added_is ps (c ∷ cs) p qs h =
    append_assoc (ps ++ Chars (c ∷ cs) ∷ []) (p ∷ []) qs ∙ append_assoc ps (Chars (c ∷ cs) ∷ []) (p ∷ qs)
    ∙ ap (λ rs. ps ++ rs) (sym (put_whole c cs (p ∷ qs) h))

either : {A B : Type 0} (f : A → B) (b : Bool) (x y : B) (v w : A) → x ≡ f v → y ≡ f w → cond b x y ≡ f (cond b v w)
either f true x y v w h k = h
either f false x y v w h k = k

chosen : {A B C : Type 0} (f : B → C) (o : Option A) (g : A → Option C) (k : A → Option B)
    → ((a : A) → g a ≡ option_map f (k a)) → choose o None g ≡ option_map f (choose o None k)
chosen f (Some a) g k h = h a
chosen f None g k h = refl

mapped : {A : Type 0} (o : Option A) (f g k : A → A) → ((a : A) → f a ≡ g (k a)) → option_map f o ≡ option_map g (option_map k o)
mapped (Some a) f g k h = ap Some (h a)
mapped None f g k h = refl

-- reading on behind parts and characters
reads_on : (ps : List FormatPart) (cs : List ℕ) (s : Seen) (text : List ℕ)
    → parts ps cs s text ≡ option_map (λ qs. ps ++ put_all cs qs) (read s text)
unfolding read put_all
reads_on ps cs Nothing [] = ap Some (closed_is ps cs)
reads_on ps cs Percent [] = refl
reads_on ps cs PercentB [] = refl
reads_on ps cs Nothing (c ∷ more) =
    either (option_map (λ qs. ps ++ put_all cs qs)) (c == 37) _ _ _ _
    (reads_on ps cs Percent more)
    (reads_on ps (cs ++ c ∷ []) Nothing more ∙ mapped (read Nothing more) _ _ _ (λ qs. ap (λ rs. ps ++ rs) (put_last cs c qs)))
reads_on ps cs Percent (c ∷ more) =
    either (option_map (λ qs. ps ++ put_all cs qs)) (c == 37) _ _ _ _
    (reads_on ps (cs ++ 37 ∷ []) Nothing more ∙ mapped (read Nothing more) _ _ _ (λ qs. ap (λ rs. ps ++ rs) (put_last cs 37 qs)))
    (either (option_map (λ qs. ps ++ put_all cs qs)) (c == 98) _ _ _ _
    (reads_on ps cs PercentB more)
    (either (option_map (λ qs. ps ++ put_all cs qs)) (c == 114) _ _ _ _
    (reads_on (added ps cs Error) [] Nothing more ∙ mapped (read Nothing more) _ _ _ (λ qs. added_is ps cs Error qs tt))
    (chosen (λ qs. ps ++ put_all cs qs) (verb_of c) _ _
    (λ v. reads_on (added ps cs (Argument v)) [] Nothing more ∙ mapped (read Nothing more) _ _ _ (λ qs. added_is ps cs (Argument v) qs tt)))))
reads_on ps cs PercentB (c ∷ more) =
    either (option_map (λ qs. ps ++ put_all cs qs)) (c == 100) _ _ _ _
    (reads_on (added ps cs (Argument Big)) [] Nothing more
    ∙ mapped (read Nothing more) _ _ _ (λ qs. added_is ps cs (Argument Big) qs tt))
    refl

itself : {A : Type 0} (o : Option A) → option_map (λ a. a) o ≡ o
itself (Some a) = refl
itself None = refl

format_is : (text : List ℕ) → format_of text ≡ read Nothing text
unfolding format_of put_all
format_is text = reads_on [] [] Nothing text ∙ itself (read Nothing text)

-- ---- what is read is written so

read_of : Seen → List ℕ
read_of Nothing = []
read_of Percent = 37 ∷ []
read_of PercentB = 37 ∷ 98 ∷ []

some_of : {A B : Type 0} (o : Option A) (f : A → B) (y : B) → option_map f o ≡ Some y → (x : A) × (o ≡ Some x) × (f x ≡ y)
some_of (Some x) f y e = (x, refl, cc)
some_of None f y e = absurd cc

some_chosen : {A B : Type 0} (o : Option A) (f : A → Option B) (y : B) → choose o None f ≡ Some y → (x : A) × (o ≡ Some x) × (f x ≡ Some y)
some_chosen (Some x) f y e = (x, refl, e)
some_chosen None f y e = absurd cc

-- a character before parts is written before them
put_spelled : (c : ℕ) (ps : List FormatPart) → spelling (put c ps) ≡ escaped c ++ spelling ps
unfolding put
put_spelled c [] = append_assoc (escaped c) [] []
put_spelled c (Chars t ∷ ps) = append_assoc (escaped c) (all_escaped t) (spelling ps)
put_spelled c (Error ∷ ps) = append_assoc (escaped c) [] (spelling (Error ∷ ps))
put_spelled c (Argument v ∷ ps) = append_assoc (escaped c) [] (spelling (Argument v ∷ ps))

put_is_whole : (c : ℕ) (ps : List FormatPart) → AreWhole ps → AreWhole (put c ps)
unfolding put
put_is_whole c [] h = (tt, tt, tt)
put_is_whole c (Chars t ∷ ps) h = (tt, h.1, h.2)
put_is_whole c (Error ∷ ps) h = (tt, tt, h)
put_is_whole c (Argument v ∷ ps) h = (tt, tt, h)

plain : (c : ℕ) → (c == 37) ≡ false → escaped c ≡ c ∷ []
plain c e = rw e refl

-- text of characters behind what was seen is a format
abbrev Sound : List ℕ → Type 0
Sound more = (s : Seen) (qs : List FormatPart) → read s more ≡ Some qs → IsFormat (read_of s ++ more) qs

put_sound : (c : ℕ) (more text : List ℕ) (qs : List FormatPart) → Sound more → text ≡ escaped c ++ more
    → option_map (put c) (read Nothing more) ≡ Some qs → IsFormat text qs
unfolding read_of
put_sound c more text qs ih t e =
    let p = some_of (read Nothing more) (put c) qs e in
    let f = ih Nothing p.0 p.1 in
    subst (λ (z : List FormatPart). IsFormat text z) p.2 (record {
      spelled = t ∙ ap (λ rest. escaped c ++ rest) f.spelled ∙ sym (put_spelled c p.0);
      whole = put_is_whole c p.0 f.whole;
    })

verb_sound : (p : FormatPart) (more text : List ℕ) (qs : List FormatPart) → Sound more
    → ((ps : List FormatPart) → AreWhole ps → AreWhole (p ∷ ps)) → ((ps : List FormatPart) → more ≡ spelling ps → text ≡ spelling (p ∷ ps))
    → option_map (λ ps. p ∷ ps) (read Nothing more) ≡ Some qs → IsFormat text qs
unfolding read_of
verb_sound p more text qs ih whole spelled e =
    let s = some_of (read Nothing more) (λ ps. p ∷ ps) qs e in
    let f = ih Nothing s.0 s.1 in
    subst (λ (z : List FormatPart). IsFormat text z) s.2 (record { spelled = spelled s.0 f.spelled; whole = whole s.0 f.whole })

nothing_sound : (c : ℕ) (more : List ℕ) (qs : List FormatPart) → Sound more → (b : Bool) → (c == 37) ≡ b
    → cond b (read Percent more) (option_map (put c) (read Nothing more)) ≡ Some qs → IsFormat (c ∷ more) qs
unfolding read_of
nothing_sound c more qs ih true h e = subst (λ (z : ℕ). IsFormat (z ∷ more) qs) (sym (eqb-true c 37 h)) (ih Percent qs e)
nothing_sound c more qs ih false h e = put_sound c more (c ∷ more) qs ih (rw (plain c h) refl) e

-- the letter of a verb
letter : (c : ℕ) (v : Verb) → verb_of c ≡ Some v → 37 ∷ c ∷ [] ≡ written v
letter c v e = at_d (c == 100) refl e
  where
    at_x : (b : Bool) → (c == 120) ≡ b → cond b (Some Hexadecimal) None ≡ Some v → 37 ∷ c ∷ [] ≡ written v
    at_x true h e = rw (eqb-true c 120 h) (let f : Hexadecimal ≡ v = cc in ap written f)
    at_x false h e = absurd cc

    at_c : (b : Bool) → (c == 99) ≡ b → cond b (Some Character) (cond (c == 120) (Some Hexadecimal) None) ≡ Some v → 37 ∷ c ∷ [] ≡ written v
    at_c true h e = rw (eqb-true c 99 h) (let f : Character ≡ v = cc in ap written f)
    at_c false h e = at_x (c == 120) refl e

    at_s : (b : Bool) → (c == 115) ≡ b
        → cond b (Some verb.Chars) (cond (c == 99) (Some Character) (cond (c == 120) (Some Hexadecimal) None)) ≡ Some v
        → 37 ∷ c ∷ [] ≡ written v
    at_s true h e = rw (eqb-true c 115 h) (let f : verb.Chars ≡ v = cc in ap written f)
    at_s false h e = at_c (c == 99) refl e

    at_d : (b : Bool) → (c == 100) ≡ b
        → cond b (Some Decimal) (cond (c == 115) (Some verb.Chars) (cond (c == 99) (Some Character) (cond (c == 120) (Some Hexadecimal) None))) ≡ Some v
        → 37 ∷ c ∷ [] ≡ written v
    at_d true h e = rw (eqb-true c 100 h) (let f : Decimal ≡ v = cc in ap written f)
    at_d false h e = at_s (c == 115) refl e

argument_sound : (c : ℕ) (more : List ℕ) (qs : List FormatPart) → Sound more
    → choose (verb_of c) None (λ v. option_map (λ ps. Argument v ∷ ps) (read Nothing more)) ≡ Some qs → IsFormat (37 ∷ c ∷ more) qs
argument_sound c more qs ih e =
    let p = some_chosen (verb_of c) _ qs e in
    verb_sound (Argument p.0) more (37 ∷ c ∷ more) qs ih (λ ps h. h)
    (λ ps h. ap (λ rest. 37 ∷ c ∷ rest) h ∙ ap (λ w. w ++ spelling ps) (letter c p.0 p.1)) p.2

percent_sound : (c : ℕ) (more : List ℕ) (qs : List FormatPart) → Sound more
    → read Percent (c ∷ more) ≡ Some qs → IsFormat (37 ∷ c ∷ more) qs
unfolding read read_of
percent_sound c more qs ih e = at_percent (c == 37) refl e
  where
    at_r : (b : Bool) → (c == 114) ≡ b
        → cond b (option_map (λ ps. Error ∷ ps) (read Nothing more))
        (choose (verb_of c) None (λ v. option_map (λ ps. Argument v ∷ ps) (read Nothing more))) ≡ Some qs
        → IsFormat (37 ∷ c ∷ more) qs
    at_r true h e =
        verb_sound Error more (37 ∷ c ∷ more) qs ih (λ ps h. h) (λ ps k. rw (eqb-true c 114 h) (ap (λ rest. 37 ∷ 114 ∷ rest) k)) e
    at_r false h e = argument_sound c more qs ih e

    at_b : (b : Bool) → (c == 98) ≡ b
        → cond b (read PercentB more) (cond (c == 114) (option_map (λ ps. Error ∷ ps) (read Nothing more))
        (choose (verb_of c) None (λ v. option_map (λ ps. Argument v ∷ ps) (read Nothing more)))) ≡ Some qs
        → IsFormat (37 ∷ c ∷ more) qs
    at_b true h e = subst (λ (z : ℕ). IsFormat (37 ∷ z ∷ more) qs) (sym (eqb-true c 98 h)) (ih PercentB qs e)
    at_b false h e = at_r (c == 114) refl e

    at_percent : (b : Bool) → (c == 37) ≡ b
        → cond b (option_map (put 37) (read Nothing more)) (cond (c == 98) (read PercentB more)
        (cond (c == 114) (option_map (λ ps. Error ∷ ps) (read Nothing more))
        (choose (verb_of c) None (λ v. option_map (λ ps. Argument v ∷ ps) (read Nothing more))))) ≡ Some qs
        → IsFormat (37 ∷ c ∷ more) qs
    at_percent true h e = put_sound 37 more (37 ∷ c ∷ more) qs ih (rw (eqb-true c 37 h) refl) e
    at_percent false h e = at_b (c == 98) refl e

big_sound : (c : ℕ) (more : List ℕ) (qs : List FormatPart) → Sound more → (b : Bool) → (c == 100) ≡ b
    → cond b (option_map (λ ps. Argument Big ∷ ps) (read Nothing more)) None ≡ Some qs → IsFormat (37 ∷ 98 ∷ c ∷ more) qs
big_sound c more qs ih true h e =
    verb_sound (Argument Big) more (37 ∷ 98 ∷ c ∷ more) qs ih (λ ps h. h)
    (λ ps k. rw (eqb-true c 100 h) (ap (λ rest. 37 ∷ 98 ∷ 100 ∷ rest) k)) e
big_sound c more qs ih false h e = absurd cc

sound : (text : List ℕ) → Sound text
unfolding read read_of
sound [] Nothing qs e = let f : [] ≡ qs = cc in subst (λ (z : List FormatPart). IsFormat [] z) f (record { spelled = refl; whole = tt })
sound [] Percent qs e = absurd cc
sound [] PercentB qs e = absurd cc
sound (c ∷ more) Nothing qs e = nothing_sound c more qs (λ s rs h. sound more s rs h) (c == 37) refl e
sound (c ∷ more) Percent qs e = percent_sound c more qs (λ s rs h. sound more s rs h) e
sound (c ∷ more) PercentB qs e = big_sound c more qs (λ s rs h. sound more s rs h) (c == 100) refl e

-- ---- what is written so is read

escaped_read : (c : ℕ) (rest : List ℕ) → read Nothing (escaped c ++ rest) ≡ option_map (put c) (read Nothing rest)
unfolding read
escaped_read c rest = go (c == 37) refl
  where
    go : (b : Bool) → (c == 37) ≡ b → read Nothing (cond b (codes "%%") (c ∷ []) ++ rest) ≡ option_map (put c) (read Nothing rest)
    go true h = ap (λ z. option_map (put z) (read Nothing rest)) (sym (eqb-true c 37 h))
    go false h = rw h refl

put_more : (c : ℕ) (t : List ℕ) (ps : List FormatPart) → option_map (put c) (Some (Chars t ∷ ps)) ≡ Some (Chars (c ∷ t) ∷ ps)
unfolding put
put_more c t ps = refl

chars_read : (c : ℕ) (t : List ℕ) (ps : List FormatPart) → BeginsWithVerb ps → read Nothing (spelling ps) ≡ Some ps
    → read Nothing (all_escaped (c ∷ t) ++ spelling ps) ≡ Some (Chars (c ∷ t) ∷ ps)
chars_read c [] ps b h =
    ap (read Nothing) (append_assoc (escaped c) [] (spelling ps)) ∙ escaped_read c (spelling ps)
    ∙ ap (option_map (put c)) h ∙ ap Some (put_verb c ps b)
chars_read c (d ∷ ds) ps b h =
    ap (read Nothing) (append_assoc (escaped c) (all_escaped (d ∷ ds)) (spelling ps)) ∙ escaped_read c (all_escaped (d ∷ ds) ++ spelling ps)
    ∙ ap (option_map (put c)) (chars_read d ds ps b h) ∙ put_more c (d ∷ ds) ps

written_read : (v : Verb) (rest : List ℕ) → read Nothing (written v ++ rest) ≡ option_map (λ ps. Argument v ∷ ps) (read Nothing rest)
unfolding read
written_read Decimal rest = refl
written_read Big rest = refl
written_read verb.Chars rest = refl
written_read Character rest = refl
written_read Hexadecimal rest = refl

error_read : (rest : List ℕ) → read Nothing (codes "%r" ++ rest) ≡ option_map (λ ps. Error ∷ ps) (read Nothing rest)
unfolding read
error_read rest = refl

whole_read : (ps : List FormatPart) → AreWhole ps → read Nothing (spelling ps) ≡ Some ps
unfolding read
whole_read [] h = refl
whole_read (Chars [] ∷ ps) h = absurd h.0
whole_read (Chars (c ∷ t) ∷ ps) h = chars_read c t ps h.1 (whole_read ps h.2)
whole_read (Error ∷ ps) h = error_read (spelling ps) ∙ ap (option_map (λ ps. Error ∷ ps)) (whole_read ps h)
whole_read (Argument v ∷ ps) h = written_read v (spelling ps) ∙ ap (option_map (λ ps. Argument v ∷ ps)) (whole_read ps h)

-- ---- both together

pub is_format : (text : List ℕ) (ps : List FormatPart) → format_of text ≡ Some ps → IsFormat text ps
unfolding read_of
is_format text ps e = sound text Nothing ps (sym (format_is text) ∙ e)

pub format_read : (text : List ℕ) (ps : List FormatPart) → IsFormat text ps → format_of text ≡ Some ps
format_read text ps f = format_is text ∙ ap (read Nothing) f.spelled ∙ whole_read ps f.whole

pub no_format : (text : List ℕ) → format_of text ≡ None → (ps : List FormatPart) → IsFormat text ps → ⊥
no_format text e ps f = let h : None ≡ Some ps = sym e ∙ format_read text ps f in absurd cc

pub one_format : (text : List ℕ) (ps qs : List FormatPart) → IsFormat text ps → IsFormat text qs → ps ≡ qs
one_format text ps qs f g = let h : Some ps ≡ Some qs = sym (format_read text ps f) ∙ format_read text qs g in cc

-- ---- arguments

takes : (v : Verb) (t : Ty) (h : Hole) → hole_for v t ≡ Some h → Takes v t h
takes Decimal ty.Int h e = let f : hole.Decimal kind.Int ≡ h = cc in subst (λ (z : Hole). Takes Decimal ty.Int z) f fits.int
takes Decimal ty.Byte h e = let f : hole.Decimal kind.Byte ≡ h = cc in subst (λ (z : Hole). Takes Decimal ty.Byte z) f fits.byte
takes Decimal _ h e = absurd cc
takes Big ty.Big h e = let f : hole.Decimal kind.Big ≡ h = cc in subst (λ (z : Hole). Takes Big ty.Big z) f fits.big
takes Big _ h e = absurd cc
takes verb.Chars ty.Chars h e = let f : hole.Chars ≡ h = cc in subst (λ (z : Hole). Takes verb.Chars ty.Chars z) f fits.Takes.chars
takes verb.Chars ty.Nil h e = let f : hole.Chars ≡ h = cc in subst (λ (z : Hole). Takes verb.Chars ty.Nil z) f fits.nil
takes verb.Chars _ h e = absurd cc
takes Character ty.Int h e = let f : hole.Character ≡ h = cc in subst (λ (z : Hole). Takes Character ty.Int z) f fits.character
takes Character _ h e = absurd cc
takes Hexadecimal ty.Int h e = let f : hole.Hexadecimal ≡ h = cc in subst (λ (z : Hole). Takes Hexadecimal ty.Int z) f fits.hexadecimal
takes Hexadecimal _ h e = absurd cc

hole_found : (v : Verb) (t : Ty) (h : Hole) → Takes v t h → hole_for v t ≡ Some h
hole_found _ _ _ fits.int = refl
hole_found _ _ _ fits.byte = refl
hole_found _ _ _ fits.big = refl
hole_found _ _ _ fits.Takes.chars = refl
hole_found _ _ _ fits.nil = refl
hole_found _ _ _ fits.character = refl
hole_found _ _ _ fits.hexadecimal = refl

abbrev Fitted : List Piece → List FormatPart → List Ty → List Piece → Type 0
Fitted qs ps ts rs = (new : List Piece) × (rs ≡ qs ++ new) × Fits ps ts new

fitted_fits : (ps : List FormatPart) (qs : List Piece) (ts : List Ty) (rs : List Piece) → fitted qs ps ts ≡ Some rs → Fitted qs ps ts rs
fitted_fits [] qs [] rs e = let f : qs ≡ rs = cc in ([], sym f ∙ nothing_behind qs, fits.done)
fitted_fits [] qs (t ∷ ts) rs e = absurd cc
fitted_fits (Chars c ∷ ps) qs ts rs e =
    let f = fitted_fits ps (qs ++ piece.Chars c ∷ []) ts rs e in
    (piece.Chars c ∷ f.0, f.1 ∙ append_assoc qs (piece.Chars c ∷ []) f.0, fits.Fits.chars c ps ts f.0 f.2)
fitted_fits (Error ∷ ps) qs ts rs e =
    let f = fitted_fits ps (qs ++ piece.Hole hole.Error ∷ []) ts rs e in
    (piece.Hole hole.Error ∷ f.0, f.1 ∙ append_assoc qs (piece.Hole hole.Error ∷ []) f.0, fits.error ps ts f.0 f.2)
fitted_fits (Argument v ∷ ps) qs [] rs e = absurd cc
fitted_fits (Argument v ∷ ps) qs (t ∷ ts) rs e =
    let h = some_chosen (hole_for v t) _ rs e in
    let f = fitted_fits ps (qs ++ piece.Hole h.0 ∷ []) ts rs h.2 in
    (piece.Hole h.0 ∷ f.0, f.1 ∙ append_assoc qs (piece.Hole h.0 ∷ []) f.0, fits.argument v t h.0 ps ts f.0 (takes v t h.0 h.1) f.2)

fits_fitted : (ps : List FormatPart) (ts : List Ty) (new : List Piece) → Fits ps ts new
    → (qs : List Piece) → fitted qs ps ts ≡ Some (qs ++ new)
fits_fitted _ _ _ fits.done qs = ap Some (nothing_behind qs)
fits_fitted _ _ _ (fits.Fits.chars c ps ts new f) qs =
    fits_fitted ps ts new f (qs ++ piece.Chars c ∷ []) ∙ ap Some (append_assoc qs (piece.Chars c ∷ []) new)
fits_fitted _ _ _ (fits.error ps ts new f) qs =
    fits_fitted ps ts new f (qs ++ piece.Hole hole.Error ∷ []) ∙ ap Some (append_assoc qs (piece.Hole hole.Error ∷ []) new)
fits_fitted _ _ _ (fits.argument v t h ps ts new k f) qs =
    ap (λ o. choose o None (λ z. fitted (qs ++ piece.Hole z ∷ []) ps ts)) (hole_found v t h k)
    ∙ fits_fitted ps ts new f (qs ++ piece.Hole h ∷ []) ∙ ap Some (append_assoc qs (piece.Hole h ∷ []) new)

pub is_fit : (ps : List FormatPart) (ts : List Ty) (qs : List Piece) → fitted [] ps ts ≡ Some qs → Fits ps ts qs
is_fit ps ts qs e =
    let f = fitted_fits ps [] ts qs e in
    subst (λ (z : List Piece). Fits ps ts z) (sym f.1) f.2

pub no_fit : (ps : List FormatPart) (ts : List Ty) → fitted [] ps ts ≡ None → (qs : List Piece) → Fits ps ts qs → ⊥
no_fit ps ts e qs f = let h : None ≡ Some qs = sym e ∙ fits_fitted ps ts qs f [] in absurd cc

pub found_parts : (text : List ℕ) (ps : Option (Vec FormatPart Global)) → IsRead (format_of text) ps → IfSome ps (λ v. IsFormat text v.items)
found_parts text None h = tt
found_parts text (Some v) h = is_format text v.items h

pub no_parts : (text : List ℕ) (ps : Option (Vec FormatPart Global)) → IsRead (format_of text) ps
    → IfNone ps ((qs : List FormatPart) → IsFormat text qs → ⊥)
no_parts text None h = no_format text h
no_parts text (Some v) h = tt

pub found_pieces : (ps : List FormatPart) (ts : List Ty) (qs : Option (Vec Piece Global)) → IsFitted (fitted [] ps ts) qs
    → IfSome qs (λ v. Fits ps ts v.items)
found_pieces ps ts None h = tt
found_pieces ps ts (Some v) h = is_fit ps ts v.items h

pub no_pieces : (ps : List FormatPart) (ts : List Ty) (qs : Option (Vec Piece Global)) → IsFitted (fitted [] ps ts) qs
    → IfNone qs ((rs : List Piece) → Fits ps ts rs → ⊥)
no_pieces ps ts None h = no_fit ps ts h
no_pieces ps ts (Some v) h = tt

-- the arguments are of the types that are asked for, but for an open `nil`
taken : (v : Verb) (t : Ty) (h : Hole) → Takes v t h → (u : Ty) × (type_of_hole h ≡ u ∷ []) × AskedAs t u
taken _ _ _ fits.int = (ty.Int, refl, inl refl)
taken _ _ _ fits.byte = (ty.Byte, refl, inl refl)
taken _ _ _ fits.big = (ty.Big, refl, inl refl)
taken _ _ _ fits.Takes.chars = (ty.Chars, refl, inl refl)
taken _ _ _ fits.nil = (ty.Chars, refl, inr (refl, refl))
taken _ _ _ fits.character = (ty.Int, refl, inl refl)
taken _ _ _ fits.hexadecimal = (ty.Int, refl, inl refl)

pub asked_as : (ps : List FormatPart) (ts : List Ty) (qs : List Piece) → Fits ps ts qs → AllAskedAs ts (holes qs)
asked_as _ _ _ fits.done = tt
asked_as _ _ _ (fits.Fits.chars c ps ts qs f) = asked_as ps ts qs f
asked_as _ _ _ (fits.error ps ts qs f) = asked_as ps ts qs f
asked_as _ _ _ (fits.argument v t h ps ts qs k f) =
    let u = taken v t h k in
    subst (λ (z : List Ty). AllAskedAs (t ∷ ts) (z ++ holes qs)) (sym u.1) (u.2, asked_as ps ts qs f)
