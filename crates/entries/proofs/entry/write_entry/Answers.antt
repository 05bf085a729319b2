-- `entry::write_entry` meets its contract: two numbers, the records, zeros, then the example. Assumes nothing.
use Rattle.std.proofs.Common.{rules, ◌≡◌, refl, sym, ap, ap₂, ◌∙◌, ◌≤◌, ◌+◌, ◌*◌, ◌-◌, ℕ, List, [], ◌∷◌, ◌++◌, length, take, drop, set, replicate, append_assoc, arith, length-append, length-drop, length-take-le, length-set}
use Rattle.std.proofs.lemmas.List.{length-replicate, set-append_right, take-append-le, take-take}
use Rattle.std.proofs.Math.Seq.{take-append-add}
use borrow.Rule.Slice.PartMut.{put_mid}
use Rattle.codes.specs.CodeBytes.{recs_in_length, rec_bytes_in}
use Rattle.growth.specs.Sizes.{entry_size}
use Rattle.growth.specs.Catalogue.{Figures, entry_bytes}
use Rattle.growth.specs.Entries.{told}
use Rattle.entries.specs.Heads.{head_figures}
use Rattle.entries.proofs.entry.write_entry.Goals as goal

-- the one byte behind the zeros becomes the example
last_is : (t : List ℕ) (e : ℕ) → length t ≡ 1 → set t 0 e ≡ e ∷ []
last_is [] e h = absurd (omega arith)
last_is (x ∷ []) e h = refl
last_is (x ∷ y ∷ t) e h = absurd (omega arith)

-- the two numbers in front
front_is : (out : List ℕ) (m s : ℕ) → length out ≡ entry_size → take 2 (set (set out 0 m) 1 s) ≡ m ∷ s ∷ []
front_is [] m s h = absurd (omega arith)
front_is (a ∷ []) m s h = absurd (omega arith)
front_is (a ∷ b ∷ out) m s h = refl

-- n of the bytes that were copied behind the first two
copied_front : (n k : ℕ) (xs ys : List ℕ) → 2 ≤ length xs → n ≤ length ys → take (2 + n) (put_mid 2 k xs ys) ≡ take 2 xs ++ take n ys
copied_front n k xs ys h g =
    ap (λ (j : ℕ). take (j + n) (put_mid 2 k xs ys)) (sym (length-take-le 2 xs h))
    ∙ take-append-add (take 2 xs) (ys ++ drop k (drop 2 xs)) n
    ∙ ap (λ (l : List ℕ). take 2 xs ++ l) (take-append-le n ys _ g)

module _ (code out whole zeros : List ℕ) (m : ℕ) (f : Figures) (room : length code ≡ 100) (few : m ≤ 8) (long : length out ≡ entry_size)
    (copied : whole ≡ take 40 code) (padded : zeros ≡ replicate (42 - (2 + 5 * m)) 0) where
  abbrev head : List ℕ
  head = set (set out 0 m) 1 f.support

  abbrev copy : List ℕ
  copy = put_mid 2 40 head whole

  -- the records among what was copied
  abbrev part : List ℕ
  part = take (5 * m) code

  abbrev pad : List ℕ
  pad = put_mid (2 + 5 * m) (42 - (2 + 5 * m)) copy zeros

  part_size : length part ≡ 5 * m
  part_size = length-take-le (5 * m) code (omega arith)

  whole_size : length whole ≡ 40
  whole_size = ap length copied ∙ length-take-le 40 code (omega arith)

  head_size : length head ≡ 43
  head_size = simp length-set long

  zeros_size : length zeros ≡ 40 - 5 * m
  zeros_size = omega (arith, ap length padded, length-replicate {A = ℕ} (42 - (2 + 5 * m)) 0)

  zeros_few : 42 - (2 + 5 * m) ≡ 40 - 5 * m
  zeros_few = omega arith

  -- the bytes behind the zeros
  abbrev last : List ℕ
  last = drop (42 - (2 + 5 * m)) (drop (2 + 5 * m) copy)

  copy_size : length copy ≡ 43
  copy_size =
      simp (length-append, length-drop)
      (omega (arith, whole_size, head_size, length-take-le 2 head (omega (arith, head_size))))

  last_size : length last ≡ 1
  last_size = simp length-drop (omega (arith, copy_size))

  copy_is : take (2 + 5 * m) copy ≡ m ∷ f.support ∷ part
  copy_is =
      copied_front (5 * m) 40 head whole (omega (arith, head_size)) (omega (arith, whole_size))
      ∙ ap₂ (λ (t u : List ℕ). t ++ u) (front_is out m f.support long)
      (ap (take (5 * m)) copied ∙ take-take (5 * m) 40 code (omega arith))

  pad_is : pad ≡ (m ∷ f.support ∷ (part ++ zeros)) ++ last
  pad_is =
      ap (λ (t : List ℕ). t ++ (zeros ++ last)) copy_is ∙ sym (append_assoc (m ∷ f.support ∷ part) zeros last)

  written : set pad 42 f.example ≡ told code m f
  unfolding entry_bytes
  written =
      rw pad_is (
      set-append_right (m ∷ f.support ∷ (part ++ zeros)) last 42 42 f.example
      (omega (arith, length-append part zeros, part_size, zeros_size)) (omega arith)
      ∙ ap (λ (t : List ℕ). (m ∷ f.support ∷ (part ++ zeros)) ++ t) (last_is last f.example last_size)
      ∙ rw (padded, zeros_few, recs_in_length m code, rec_bytes_in m code (omega arith)) refl
      )

pub returns : goal.returns
returns c =
    let a = c.args in
    written a.code.now a.output.now _ _ a.head.cables (head_figures a.head) c.requires.0.0 c.requires.0.1 c.requires.1 (search rules) (search rules)
