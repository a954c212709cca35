-- Every sample holds, by computation.
use mathlib.Core.Path.{◌≡◌, refl}
use mathlib.Core.Bool.{xor}
use mathlib.Core.List.{map, flat_map}
use Rattle.prelude.specs.Ascii.{ascii}
use Rattle.prelude.specs.Buffer.{written}
use Rattle.base64url.specs.Base64url.{alphabet, character, place_in, six_bits, sextets, octets, encoded, decoded}
use Rattle.base64url.specs.Fault.{first_outside, spare_bits, fault}
use Rattle.base64url.specs.Answers.{decode_order, decode_refusal}
use Rattle.names.specs.Names.{names, sound, limited, filled, total, cut, number_in}
use Rattle.parts.specs.Parts.{part, seek, seek_in, holds}
use Rattle.grammar.specs.Utf8.{utf8, utf8_after, follow, encode}
use Rattle.grammar.specs.Spellings.{undo, undo_from, adds, next, equal, has, alike}
use Rattle.grammar.specs.Reader.{pass_over, skip, turn, scan_string, string_at, digits_at, int_at, perhaps_at, fraction_at}
use Rattle.grammar.specs.Reader.{exponent_at, number_at, word_at, before_at, entry_at, entries_at, rows_at, nested_at, rows_in}
use Rattle.grammar.specs.Reader.{value_with, value_at, members_at, elements_of, elements_at, read_text, opens_object}
use Rattle.prelude.specs.Any.{any, any_pair}
use Rattle.rows.specs.Rows.{entries_in, present, having, value_of, repeated}
use Rattle.rows.specs.Tables.{listed}
use Rattle.jose.specs.Registered.{registered, kind_asked}
use Rattle.algorithms.specs.Algorithms.{algs, alg_name, encs, enc_name, alg_names, enc_names, zip_names, nth}
use Rattle.prelude.specs.Refusals.{first}
use Rattle.jose.specs.HeaderRules.{incomplete, wrong_crit, mode_in, recipient_order}
use Rattle.jose.specs.ContentAlgorithm.{content_algorithm, differing}
use Rattle.headers.specs.Components.{misspelled}
use Rattle.headers.specs.Headers.{header_text, unread, text_order, outermost, protected_entries, members_of, header_entries}
use Rattle.headers.specs.Headers.{object_order}
use Rattle.shape.specs.Shape.{member_names, member_entries, wrong_member, wrong_top, wrong_elements, wrong_element}
use Rattle.shape.specs.Recipients.{top_entries, top_order, elements_in, element_entries, element_order, elements_order}
use Rattle.shape.specs.Recipients.{recipients_in, components_in}
use Rattle.jwe.specs.Compact.{stops, four_stops, compact_components, compact_order}
use Rattle.jwe.specs.General.{shared_entries, own_entries, parameters, all_places, any_misspelled, protected_order}
use Rattle.jwe.specs.General.{headers_order, recipients_order, content_order, json_spelled, json_later, json_order}
use Rattle.jwe.specs.Judge.{order, refusal, asked, held, outcome, accepted, refused, result_of, list_after}
use Rattle.aad.specs.Aad.{aad_text, aad_order, aad_refusal}
use Rattle.gateway.specs.Samples.{Sample, read_answer, aad_answer, answer, samples}

pub samples_hold : map (λ (s : Sample). answer s.input) samples ≡ map (λ (s : Sample). s.expected) samples
unfolding ascii alphabet character place_in six_bits sextets octets encoded decoded first_outside spare_bits fault names sound limited filled total cut number_in part seek seek_in holds utf8 utf8_after follow encode undo undo_from adds next equal has alike pass_over skip turn scan_string string_at digits_at int_at perhaps_at fraction_at exponent_at number_at word_at before_at entry_at entries_at rows_at nested_at rows_in value_with value_at members_at elements_of elements_at read_text opens_object any any_pair entries_in present having value_of repeated listed registered kind_asked algs alg_name encs enc_name alg_names enc_names zip_names nth first incomplete wrong_crit mode_in recipient_order content_algorithm differing misspelled header_text unread text_order outermost protected_entries members_of header_entries object_order member_names member_entries wrong_member wrong_top wrong_elements wrong_element top_entries top_order elements_in element_entries element_order elements_order recipients_in components_in stops four_stops compact_components compact_order shared_entries own_entries parameters all_places any_misspelled protected_order headers_order recipients_order content_order json_spelled json_later json_order order refusal asked held outcome accepted refused result_of written list_after decode_order decode_refusal aad_text aad_order aad_refusal read_answer aad_answer answer samples flat_map xor
samples_hold = refl
