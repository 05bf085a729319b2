-- The statements of Promise.antt, proved. Assumes nothing.
use Rattle.std.specs.Prelude.{◌≡◌, true, List, ℕ}
use Rattle.graphs.specs.Drawing.{drawing_in, accepted}
use Rattle.graphs.specs.Graph.{Simple}
use Rattle.graphs.specs.Patterns.{pattern_from_test, accepted_section}
use Rattle.graphs.specs.Embeddings.{embedding_from_test}
use Rattle.graphs.specs.LeastMap.{least_map_found, contains_from_embedding}
use Rattle.graphs.specs.Containment as Containment
use Rattle.codes.specs.Code.{kinds_before}
use Rattle.codes.specs.CodeOrder.{kinds_order}
use Rattle.codes.specs.SectionCodes.{
  row_section,
  row_coded,
  sections_tell,
  section_bytes_tell,
  least_section_unique,
  least_section_there,
  pattern_least,
  least_pattern,
}
use Rattle.codes.specs.Promise.{
  CodesTell,
  BytesTell,
  SupportSame,
  LeastThere,
  LeastOnce,
  LeastPattern,
  DecodedCoded,
  MapRight,
}

drawing_simple : (xs : List ℕ) → accepted xs ≡ true → Simple (drawing_in xs)
drawing_simple xs a = (accepted_section xs a).simple

pub codes_tell : CodesTell
unfolding CodesTell
codes_tell xs ys rs ss a b = sections_tell kinds_before kinds_order (drawing_in xs) (drawing_in ys) (drawing_simple xs a)
    (drawing_simple ys b) rs ss

pub bytes_tell : BytesTell
unfolding BytesTell
bytes_tell labels o xs ys rs ss a b = section_bytes_tell labels o (drawing_in xs) (drawing_in ys) (drawing_simple xs a) (drawing_simple ys b) rs ss

pub support_same : SupportSame
unfolding SupportSame
support_same p q cr ds a b m =
    Containment.same_support p q (pattern_from_test p a).simple.ends (pattern_from_test q b).simple.ends m cr ds

pub least_there : LeastThere
unfolding LeastThere
least_there xs a = least_section_there kinds_before kinds_order (drawing_in xs) (accepted_section xs a)

pub least_once : LeastOnce
unfolding LeastOnce
least_once labels o d s =
    let l = least_section_there labels o d s in
    (l.0, l.1, λ ss k. least_section_unique labels o d ss l.0 k l.1)

pub least_of_pattern : LeastPattern
unfolding LeastPattern
least_of_pattern labels d rs p = (pattern_least labels p, least_pattern labels p)

pub decoded_coded : DecodedCoded
unfolding DecodedCoded
decoded_coded rs g b = (row_section rs g b, row_coded rs g)

pub map_right : MapRight
unfolding MapRight
map_right xs ys f g a b =
    let ends = (drawing_simple xs a).ends in (
      least_map_found (drawing_in xs) (drawing_in ys) f ends,
      λ h. contains_from_embedding (drawing_in xs) (drawing_in ys) g ends (embedding_from_test (drawing_in xs) (drawing_in ys) g h),
    )
