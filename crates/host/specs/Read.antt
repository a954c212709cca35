-- What reading a message answers and leaves in the lent memory, where the eighteen numbers of the result are lent as well.
use Rattle.std.specs.Prelude.{List, cond, ℕ, length, ltb}
use Rattle.prelude.specs.Outputs.{output_after}
use Rattle.prelude.specs.Result.{result_room}
use Rattle.jwe.specs.Judge.{Call, refusal, result_of, header_after, list_after}

-- The refusal, of the call and how many numbers were lent for the result: too few is 1, as it is for the header and the list.
unfoldable pub read_refusal : Call → ℕ → ℕ
read_refusal c resultLent = cond (ltb resultLent result_room) 1 (refusal c)

-- What the header buffer, the list and the result hold afterwards, by what they held before.

unfoldable pub read_header : Call → ℕ → List ℕ → List ℕ
read_header c resultLent before = cond (ltb resultLent result_room) before (header_after c before)

unfoldable pub read_list : Call → ℕ → List ℕ → List ℕ
read_list c resultLent before = cond (ltb resultLent result_room) before (list_after c before)

-- Accepted, the buffer begins with the numbers of the result; refused, it is unchanged.
unfoldable pub read_result : Call → List ℕ → List ℕ
read_result c before = output_after (read_refusal c (length before)) (result_of c) before
