-- The proved list of document 01's short books: each case, computed again, is what its row says. One theorem over the list, which antt computes.
-- Assumes nothing.
use mathlib.Core.Path.{◌≡◌, refl}
use mathlib.Core.List.{map}
use Rattle.laws.specs.Offsets.{map_at}
use Rattle.word.specs.Word.{rotr}
use Rattle.sensitive.specs.Utf8.{char_at, well_formed}
use Rattle.sensitive.specs.Ansi.{ansi}
use Rattle.xor_obfuscation.specs.Xor.{password_verifier, key_from, xor_array}
use Rattle.binary_office.specs.Fields.{le16_at}
use Rattle.binary_office.specs.Walk.{ended, step_at, walk_from, walk_at, clear_len}
use Rattle.binary_office.specs.Look.{version_of, facts_of, scan_from, scan_at, found, look}
use Rattle.file_params.specs.Questions.{asked, only, lent, filepass, in_order, locked, other_id, book, filepass_body, encryption_type, version, rc4, lock, of_stream, questions}
use Rattle.survey.specs.Survey.{enciphered_bytes, block_keys}
use Rattle.excel97.specs.Open.{passes, xor_byte, plain_byte, record_at, plain_at, plain, report, outcome_with}
use Rattle.excel97.specs.Books.{again, cases}

pub short_books : map again cases ≡ cases
unfolding map_at rotr char_at well_formed ansi password_verifier key_from xor_array le16_at ended step_at walk_from walk_at clear_len version_of facts_of scan_from scan_at found look asked only lent filepass in_order locked other_id book filepass_body encryption_type version rc4 lock of_stream questions enciphered_bytes block_keys passes xor_byte plain_byte record_at plain_at plain report outcome_with
short_books = refl
