-- `input::read_survey` meets its contract: what each read gives stands behind what the earlier ones gave. Assumes nothing.
use Rattle.std.proofs.Common.{◌≡◌, ◌+◌, ◌≤◌, ℕ, List, refl, ◌++◌, length, take, drop, ap, sym, ◌∙◌, arith, length-take-le}
use Rattle.std.proofs.lemmas.List.{take-append-le}
use Rattle.std.proofs.Math.Seq.{take-append-add}
use borrow.Rule.Slice.PartMut.{put_mid, same_len_mid}
use Rattle.std.proofs.KnownBytes.{Consumes-nil, Consumes-trans}
use Rattle.survey_input.specs.ReadAnswerLaws.{more_came, all_came}
use Rattle.survey_input.proofs.input.read_survey.Goals as goal

-- m of the bytes read behind the first n
read_behind : (n k m : ℕ) (xs ys : List ℕ) → n ≤ length xs → m ≤ length ys → take (n + m) (put_mid n k xs ys) ≡ take n xs ++ take m ys
read_behind n k m xs ys h g =
    ap (λ (j : ℕ). take (j + m) (put_mid n k xs ys)) (sym (length-take-le n xs h))
    ∙ take-append-add (take n xs) (ys ++ drop k (drop n xs)) m
    ∙ ap (λ (l : List ℕ). take n xs ++ l) (take-append-le m ys _ g)

pub loop-read-init : goal.loop-read-init
loop-read-init g c = record { within = omega arith; room = refl; read = Consumes-nil _ }

-- after a turn with more to come: what came, and how much of the lent bytes is read
pub loop-read-smaller : goal.loop-read-smaller
loop-read-smaller g c =
    let l = c.loop-read in
    let came = more_came l.n c.in-More.read c.read.result c.in-More.ensures.bytes c.in-More.ensures.failure in
    let same = same_len_mid l.n _ l.input c.read.new.buf c.read.auto.buf in
    omega (arith, came.1.1, came.1.2, came.1.3, same, l.invariant.room)

pub loop-read-preserved : goal.loop-read-preserved
loop-read-preserved g c =
    let l = c.loop-read in
    let buf = c.read.new.buf in
    let came = more_came l.n c.in-More.read c.read.result c.in-More.ensures.bytes c.in-More.ensures.failure in
    let bound = rw came.1.0 at c.read.ensures.bound in
    let read = rw came.1.0 at c.read.ensures.bytes in
    let same = same_len_mid l.n _ l.input buf c.read.auto.buf in
    record {
      within = omega (arith, came.1.3, same, l.invariant.room);
      room = same ∙ l.invariant.room;
      read = rw (← came.1.1, read_behind l.n _ came.0 l.input buf (omega arith) bound.0)
          (Consumes-trans _ _ _ _ _ l.invariant.read read.0);
    }

pub returns-in-All-clause-within : goal.returns-in-All-clause-within
returns-in-All-clause-within g c =
    let l = c.loop-read in
    let came = all_came l.n c.in-All.read c.read.result c.in-All.ensures.bytes c.in-All.ensures.failure in
    let bound = rw came.1.0 at c.read.ensures.bound in
    let same = same_len_mid l.n _ l.input c.read.new.buf c.read.auto.buf in
    omega (arith, came.1.1, bound.0, same, c.read.auto.buf)

pub returns-in-All-clause-whole : goal.returns-in-All-clause-whole
returns-in-All-clause-whole g c =
    let l = c.loop-read in
    let buf = c.read.new.buf in
    let came = all_came l.n c.in-All.read c.read.result c.in-All.ensures.bytes c.in-All.ensures.failure in
    let bound = rw came.1.0 at c.read.ensures.bound in
    let read = rw came.1.0 at c.read.ensures.bytes in (
      rw (← came.1.1, read_behind l.n _ came.0 l.input buf (omega arith) bound.0)
          (Consumes-trans _ _ _ _ _ l.invariant.read read.0),
      λ h. read.1 (came.1.2 h) (omega arith),
    )
