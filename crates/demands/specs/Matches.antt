-- What matching two accepted drawings tells: the map written is an embedding that comes before every other, and "not contained" says
-- that there is none. Rests on the least map. Assumes nothing.
use Rattle.std.specs.Prelude.{◌≡◌, refl, List, ℕ, ◌≤◌, length, Option, Some, None, Result, Ok}
use Rattle.graphs.specs.Drawing.{devices, drawing_in, drawing_refusal}
use Rattle.graphs.specs.Embeddings.{embedding_from_test, embedding_to_test}
use Rattle.matching.specs.MatchAnswers.{MatchSays}
use Rattle.matching.specs.Outcomes.{match_answers, answers_unless_refused, written_map, none_if_no_map, no_map_if_none}
use Rattle.demands.specs.Terms.{Contained, LeastMapWritten}
use Rattle.records.specs.declared.refusal.Refusal.{Refusal}

pub map_written : (xs ys : List ℕ) (n : ℕ) (o z : List ℕ) → MatchSays xs ys (Ok (Some n)) o z → LeastMapWritten (drawing_in xs) (drawing_in ys) n o z
map_written xs ys n o z says =
    let (f, found, size, all, output) = written_map (match_answers says refl) n refl in
    record {
      map = f;
      embeds = embedding_from_test (drawing_in xs) (drawing_in ys) f found.maps;
      least = λ g e d. found.least g (embedding_to_test (drawing_in xs) (drawing_in ys) g e) d;
      count = size;
      devices_all = all;
      output = output;
    }

module _ (xs ys : List ℕ) (r : Result (Option ℕ) Refusal) (o z : List ℕ) (first : drawing_refusal xs ≡ 0) (second : drawing_refusal ys ≡ 0)
    (room : devices (drawing_in xs) ≤ length o) (says : MatchSays xs ys r o z) where
  pub no_map : r ≡ Ok None → Contained (drawing_in xs) (drawing_in ys) → ⊥
  no_map e c =
      no_map_if_none (answers_unless_refused says first second room) e c.0
      (embedding_to_test (drawing_in xs) (drawing_in ys) c.0 c.1)

  pub not_contained : (Contained (drawing_in xs) (drawing_in ys) → ⊥) → r ≡ Ok None
  not_contained d =
      none_if_no_map (answers_unless_refused says first second room)
      (λ g m. d (g, embedding_from_test (drawing_in xs) (drawing_in ys) g m))
