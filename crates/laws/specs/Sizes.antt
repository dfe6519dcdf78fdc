-- Every size of the library, said once: SCOPE.md, 'Store', 'Term bytes' and 'Numbers of refusal', and docs/TABLES.md.
-- A table grows by its line here and by its constant in src/lib.rt.
use Rattle.std.specs.Prelude.{ℕ, ◌+◌, ◌-◌, ◌*◌, ◌/◌}

-- 'there are slots 0 to 511'
abbrev pub slot_count : ℕ
slot_count = 512

-- KEYS: 'over 4,096 distinct keys'
abbrev pub key_limit : ℕ
key_limit = 4096

abbrev pub last_key : ℕ
last_key = key_limit - 1

-- '0x8000 + v with v from 0 to 31 is variable v'
abbrev pub variable_base : ℕ
variable_base = 32768

abbrev pub variable_end : ℕ
variable_end = variable_base + 32

-- in a written term: the variables of both sides
abbrev pub written_end : ℕ
written_end = variable_base + 64

-- LONG: 'some value has over 2,048 items'
abbrev pub value_limit : ℕ
value_limit = 2048

-- THE TABLES. bytes: two bytes of the signature's length, 256 arities, a byte of length for each slot, 64 bytes of
-- term for each slot
abbrev pub lengths_start : ℕ
lengths_start = 2 + 256

abbrev pub terms_start : ℕ
terms_start = lengths_start + slot_count

abbrev pub bytes_length : ℕ
bytes_length = terms_start + 64 * slot_count

-- used: the words of the slots in use
abbrev pub used_length : ℕ
used_length = 8

-- label: the label of each key
abbrev pub label_length : ℕ
label_length = key_limit

-- sets: a quarter of the keys in each of four tables, eight words a key
abbrev pub set_keys : ℕ
set_keys = key_limit / 4

abbrev pub set_length : ℕ
set_length = 8 * set_keys

-- link: a link for each key, the heads of 4,093 chains, the chain of free keys
abbrev pub chain_count : ℕ
chain_count = key_limit - 3

abbrev pub link_length : ℕ
link_length = key_limit + chain_count + 1

abbrev pub free_head : ℕ
free_head = link_length - 1

-- the place of the root, beyond the eight places below each key
abbrev pub root_place : ℕ
root_place = 8 * key_limit + 8

-- the numbers of places are below it, that of a key's bytes too, whose argument's number is any byte
abbrev pub place_end : ℕ
place_end = 8 * key_limit + 256

-- THE LOG PROGRAM: 'at most 65,535 bytes', 'the answer buffer has 32,768 bytes', and the buffer of a line
abbrev pub input_limit : ℕ
input_limit = 65535

abbrev pub answer_room : ℕ
answer_room = 32768

abbrev pub line_room : ℕ
line_room = 2 * answer_room + 64
