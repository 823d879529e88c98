-- A line that begins with a word, in parts; and the text of a sound set. Assumes nothing.
use Prim.Native.Nat.{ℕ}
use mathlib.Core.Path.{◌≡◌, refl, ap, ◌∙◌}
use mathlib.Core.List.{List, [], ◌∷◌, ◌++◌, append_assoc}
use lib.ListN.{length}
use Rattle.laws.specs.Lists.{flat}
use Rattle.paper.specs.Outcome.{accepted}
use Rattle.paper.specs.Image.{Set}
use Rattle.decimal.specs.Decimal.{decimal}
use Rattle.paper.specs.Listing.{line, head_line, set_line_list, refused_word, answer_text}
use Rattle.text.specs.Lines.{spaced, refusal_line}
use Rattle.decimal.proofs.Runs.{Splits}
use Rattle.text.proofs.lines.Parts.{joined-spaced}

pub line_split : (word : List ℕ) (fs : List (List ℕ)) → Splits (line (word ∷ fs)) word (spaced fs ++ (10 ∷ []))
unfolding line
line_split word fs = record { is = ap (λ (l : List ℕ). l ++ (10 ∷ [])) (joined-spaced word fs) ∙ append_assoc word (spaced fs) (10 ∷ []) }

pub fields_next : (f : List ℕ) (fs : List (List ℕ)) → Splits (spaced (f ∷ fs) ++ (10 ∷ [])) (32 ∷ f) (spaced fs ++ (10 ∷ []))
unfolding spaced flat
fields_next f fs = record { is = append_assoc (32 ∷ f) (spaced fs) (10 ∷ []) }

-- the fields of a line and its line feed
pub fields_feed : (fs : List (List ℕ)) → Splits (spaced fs ++ (10 ∷ [])) (spaced fs) (10 ∷ [])
fields_feed fs = record { is = refl }

pub fields_none : spaced [] ++ (10 ∷ []) ≡ 10 ∷ []
unfolding spaced flat
fields_none = refl

pub head_split : (n : ℕ) → Splits (head_line n) (68 ∷ 77 ∷ 80 ∷ []) (spaced (decimal 1 ∷ decimal n ∷ []) ++ (10 ∷ []))
unfolding head_line
head_split n = line_split (68 ∷ 77 ∷ 80 ∷ []) (decimal 1 ∷ decimal n ∷ [])

pub refusal_split : (k major minor : ℕ) → Splits (refusal_line k major minor) refused_word (spaced (decimal k ∷ decimal major ∷ decimal minor ∷ []) ++ (10 ∷ []))
unfolding refusal_line
refusal_split k major minor = line_split refused_word (decimal k ∷ decimal major ∷ decimal minor ∷ [])

pub sound_split : (S : Set) → Splits (answer_text (accepted S)) (head_line (length S)) (set_line_list S)
unfolding answer_text
sound_split S = record { is = refl }
