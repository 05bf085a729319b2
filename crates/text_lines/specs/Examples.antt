-- The paper's examples: the text of its two entries, and of two refusals. Assumes nothing: the texts are computed.
use Rattle.std.specs.Prelude.{◌≡◌, refl, List, [], ◌∷◌, ◌++◌, ℕ}
use Rattle.laws.specs.Lists.{concat}
use Rattle.codes.specs.Code.{Rec}
use Rattle.growth.specs.Catalogue.{figures, entry}
use Rattle.text_lines.specs.Texts.{digits, decimal, record_text, entry_text, catalogue_text, refusal_text}

-- the two records of D3, a path of three devices of kind 1 joined by cables of kind 5
abbrev first : Rec
first = record { i = 0; j = 1; ki = 1; c = 5; kj = 1 }

abbrev second : Rec
second = record { i = 1; j = 2; ki = 1; c = 5; kj = 1 }

-- 2 @0 0-1:1.5.1
abbrev first_line : List ℕ
first_line = 50 ∷ 32 ∷ 64 ∷ 48 ∷ 32 ∷ 48 ∷ 45 ∷ 49 ∷ 58 ∷ 49 ∷ 46 ∷ 53 ∷ 46 ∷ 49 ∷ 10 ∷ []

-- 2 @0 0-1:1.5.1 1-2:1.5.1
abbrev second_line : List ℕ
second_line =
    50 ∷ 32 ∷ 64 ∷ 48
    ∷ 32 ∷ 48 ∷ 45 ∷ 49 ∷ 58 ∷ 49 ∷ 46 ∷ 53 ∷ 46 ∷ 49
    ∷ 32 ∷ 49 ∷ 45 ∷ 50 ∷ 58 ∷ 49 ∷ 46 ∷ 53 ∷ 46 ∷ 49
    ∷ 10 ∷ []

-- 2 patterns
abbrev last_line : List ℕ
last_line = 50 ∷ 32 ∷ 112 ∷ 97 ∷ 116 ∷ 116 ∷ 101 ∷ 114 ∷ 110 ∷ 115 ∷ 10 ∷ []

-- both cranes' drawings contain both patterns; the first of them is drawing 0
pub paper_catalogue :
    catalogue_text (entry (figures 2 0) (first ∷ []) ∷ entry (figures 2 0) (first ∷ second ∷ []) ∷ []) ≡ first_line ++ second_line ++ last_line
unfolding catalogue_text entry_text record_text decimal digits concat
paper_catalogue = refl

-- 0, 255, 1560
pub zero_digit : decimal 0 ≡ 48 ∷ []
unfolding decimal digits
zero_digit = refl

pub three_digits : decimal 255 ≡ 50 ∷ 53 ∷ 53 ∷ []
unfolding decimal digits
three_digits = refl

pub four_digits : decimal 1560 ≡ 49 ∷ 53 ∷ 54 ∷ 48 ∷ []
unfolding decimal digits
four_digits = refl

-- refused 14
pub refused_14 : refusal_text 14 0 ≡ 114 ∷ 101 ∷ 102 ∷ 117 ∷ 115 ∷ 101 ∷ 100 ∷ 32 ∷ 49 ∷ 52 ∷ 10 ∷ []
unfolding refusal_text decimal digits
refused_14 = refl

-- refused 4 drawing 0
pub refused_4 :
    refusal_text 4 0
    ≡ 114 ∷ 101 ∷ 102 ∷ 117 ∷ 115 ∷ 101 ∷ 100 ∷ 32 ∷ 52 ∷ 32 ∷ 100 ∷ 114 ∷ 97 ∷ 119 ∷ 105 ∷ 110 ∷ 103 ∷ 32 ∷ 48 ∷ 10 ∷ []
unfolding refusal_text decimal digits
refused_4 = refl
