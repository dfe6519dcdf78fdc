-- SCOPE.md, 'The log program': its example, and its sentences about LOG on small inputs, computed of `printed`.
use Rattle.std.specs.Prelude.{ℕ, ◌≡◌, refl, List, [], ◌∷◌, ◌++◌}
use Rattle.std.proofs.Math.Decide.{ℕ_discrete, dec_le}
use Rattle.terms.specs.Terms.{numbers, span, declared, items_good, arities_good, sig_refusal, refusal}
use Rattle.keys.specs.Keys.{end_of, keys_t, keys_a}
use Rattle.slots.specs.Slots.{listed}
use Rattle.theory.specs.Subst.{in?}
use Rattle.theory.specs.Unify.{one}
use Rattle.theory.specs.Items.{codes, moved}
use Rattle.theory.specs.Solver.{solution, solve, by_free, by_size, step, face, face_var, face_bound, var_symbol}
use Rattle.theory.specs.Solver.{var_var, once_cases, at_bind, at_swap, at_follow, terms?}
use Rattle.theory.specs.Matcher.{matcher, matching, against, items?, item?}
use Rattle.definitions.specs.Trees.{forest, firsts, arguments_after, top, tree_of, keys_of}
use Rattle.definitions.specs.Candidates.{agree, agree_all, candidate, is_candidate}
use Rattle.definitions.specs.Records.{record_of, count_of, listed_from, bytes, field_bytes, written_fields}
use Rattle.definitions.specs.Decisions.{same?, stands, bindings?}
use Rattle.definitions.specs.Answers.{long_from}
use Rattle.library.specs.Store.{slots_from, in_use, free_from, put, place?, key?, keys_from, distinct, candidates, answers}
use Rattle.library.specs.Store.{answered, empty, after}
use Rattle.logfields.specs.Fields.{field_at}
use Rattle.logfields.specs.Reading.{field_before, fields_within, fields_from}
use Rattle.lines.specs.Lines.{digits, decimal, hex, slot_list, record_text, plain_line, refused_line, slot_line, found_line}
use Rattle.lines.specs.Lines.{solved_line}
use Rattle.tasks.specs.Operations.{first_operation, later_operation}
use Rattle.turns.specs.Printed.{later_lines, first_lines, lines_of, text_of_all, printed}

-- 'the input in hex', field by field
abbrev pub input : List ℕ
input =
    -- 01 0004 00000201
    1 ∷ 0 ∷ 4 ∷ 0 ∷ 0 ∷ 2 ∷ 1
    -- 02 0006 000280008000
    ∷ 2 ∷ 0 ∷ 6 ∷ 0 ∷ 2 ∷ 128 ∷ 0 ∷ 128 ∷ 0
    -- 02 0006 000200008000
    ∷ 2 ∷ 0 ∷ 6 ∷ 0 ∷ 2 ∷ 0 ∷ 0 ∷ 128 ∷ 0
    -- 02 0008 0002000380008000
    ∷ 2 ∷ 0 ∷ 8 ∷ 0 ∷ 2 ∷ 0 ∷ 3 ∷ 128 ∷ 0 ∷ 128 ∷ 0
    -- 04 0009 040002800000038000
    ∷ 4 ∷ 0 ∷ 9 ∷ 4 ∷ 0 ∷ 2 ∷ 128 ∷ 0 ∷ 0 ∷ 3 ∷ 128 ∷ 0
    -- 05 000a 00010002800000038000
    ∷ 5 ∷ 0 ∷ 10 ∷ 0 ∷ 1 ∷ 0 ∷ 2 ∷ 128 ∷ 0 ∷ 0 ∷ 3 ∷ 128 ∷ 0
    -- 03 0002 0001
    ∷ 3 ∷ 0 ∷ 2 ∷ 0 ∷ 1
    -- 02 0004 00030000
    ∷ 2 ∷ 0 ∷ 4 ∷ 0 ∷ 3 ∷ 0 ∷ 0
    -- 03 0002 0007
    ∷ 3 ∷ 0 ∷ 2 ∷ 0 ∷ 7
    ∷ []

-- 'prints', line by line
abbrev pub output : List ℕ
output =
    -- open ok
    111 ∷ 112 ∷ 101 ∷ 110 ∷ 32 ∷ 111 ∷ 107 ∷ 10
    -- insert ok 0
    ∷ 105 ∷ 110 ∷ 115 ∷ 101 ∷ 114 ∷ 116 ∷ 32 ∷ 111 ∷ 107 ∷ 32 ∷ 48 ∷ 10
    -- insert ok 1
    ∷ 105 ∷ 110 ∷ 115 ∷ 101 ∷ 114 ∷ 116 ∷ 32 ∷ 111 ∷ 107 ∷ 32 ∷ 49 ∷ 10
    -- insert ok 2
    ∷ 105 ∷ 110 ∷ 115 ∷ 101 ∷ 114 ∷ 116 ∷ 32 ∷ 111 ∷ 107 ∷ 32 ∷ 50 ∷ 10
    -- retrieve ok 3 1 1
    ∷ 114 ∷ 101 ∷ 116 ∷ 114 ∷ 105 ∷ 101 ∷ 118 ∷ 101 ∷ 32 ∷ 111 ∷ 107 ∷ 32 ∷ 51 ∷ 32 ∷ 49 ∷ 32 ∷ 49 ∷ 10
    -- solve ok 2 10000680000003000010000480200000
    ∷ 115 ∷ 111 ∷ 108 ∷ 118 ∷ 101 ∷ 32 ∷ 111 ∷ 107 ∷ 32 ∷ 50 ∷ 32 ∷ 49 ∷ 48 ∷ 48 ∷ 48 ∷ 48 ∷ 54 ∷ 56 ∷ 48 ∷ 48
    ∷ 48 ∷ 48 ∷ 48 ∷ 48 ∷ 51 ∷ 48 ∷ 48 ∷ 48 ∷ 48 ∷ 49 ∷ 48 ∷ 48 ∷ 48 ∷ 48 ∷ 52 ∷ 56 ∷ 48 ∷ 50 ∷ 48 ∷ 48 ∷ 48 ∷ 48
    ∷ 48 ∷ 10
    -- delete ok 1
    ∷ 100 ∷ 101 ∷ 108 ∷ 101 ∷ 116 ∷ 101 ∷ 32 ∷ 111 ∷ 107 ∷ 32 ∷ 49 ∷ 10
    -- insert ok 1
    ∷ 105 ∷ 110 ∷ 115 ∷ 101 ∷ 114 ∷ 116 ∷ 32 ∷ 111 ∷ 107 ∷ 32 ∷ 49 ∷ 10
    -- delete no 4
    ∷ 100 ∷ 101 ∷ 108 ∷ 101 ∷ 116 ∷ 101 ∷ 32 ∷ 110 ∷ 111 ∷ 32 ∷ 52 ∷ 10
    ∷ []

pub example : printed input ≡ output
unfolding printed text_of_all lines_of first_lines later_lines later_operation first_operation fields_from fields_within field_before field_at digits decimal hex slot_list record_text plain_line refused_line slot_line found_line solved_line answered empty after put free_from in_use keys_from distinct place? key? candidates answers slots_from long_from listed sig_refusal arities_good refusal numbers span declared items_good is_candidate candidate agree agree_all tree_of keys_of end_of keys_t keys_a forest firsts arguments_after top stands bindings? solution solve by_free by_size step face face_var face_bound var_symbol var_var in? once_cases ℕ_discrete one at_bind at_swap at_follow dec_le terms? codes moved matcher matching against items? item? same? record_of count_of listed_from bytes field_bytes written_fields
example = refl

-- the field of the example's signature
abbrev pub signature_field : List ℕ
signature_field = 1 ∷ 0 ∷ 4 ∷ 0 ∷ 0 ∷ 2 ∷ 1 ∷ []

-- its line, `open ok`
abbrev pub open_line : List ℕ
open_line = 111 ∷ 112 ∷ 101 ∷ 110 ∷ 32 ∷ 111 ∷ 107 ∷ 10 ∷ []

-- `log no 16`
abbrev pub log_line : List ℕ
log_line = 108 ∷ 111 ∷ 103 ∷ 32 ∷ 110 ∷ 111 ∷ 32 ∷ 49 ∷ 54 ∷ 10 ∷ []

-- 'LOG is printed as `log no 16`, and the program stops', and what stands beside it
abbrev pub Printing : Type 0
Printing =
    -- 'An empty input prints nothing'
    (printed [] ≡ [])
    -- 'a cut field': a head of two bytes, and a payload of two bytes where four are said; 'A cut first field is 16'
    × (printed (1 ∷ 0 ∷ []) ≡ log_line)
    × (printed (1 ∷ 0 ∷ 4 ∷ 0 ∷ 0 ∷ []) ≡ log_line)
    -- 'a first field that is not tag 1'
    × (printed (2 ∷ 0 ∷ 4 ∷ 0 ∷ 3 ∷ 0 ∷ 0 ∷ []) ≡ log_line)
    -- 'A whole first field with a bad signature is `open no 2`': 01 0001 09, then a field of tag 6 and a cut one
    × (printed (1 ∷ 0 ∷ 1 ∷ 9 ∷ 6 ∷ 0 ∷ 0 ∷ 1 ∷ []) ≡ (111 ∷ 112 ∷ 101 ∷ 110 ∷ 32 ∷ 110 ∷ 111 ∷ 32 ∷ 50 ∷ 10 ∷ []))
    -- 'A tag 2 payload of no bytes is `insert no 6`'
    × (printed (signature_field ++ (2 ∷ 0 ∷ 0 ∷ []))
    ≡ open_line ++ (105 ∷ 110 ∷ 115 ∷ 101 ∷ 114 ∷ 116 ∷ 32 ∷ 110 ∷ 111 ∷ 32 ∷ 54 ∷ 10 ∷ []))
    -- 'tag 4 without a byte'; of one byte it has its fixed part, and an empty term
    × (printed (signature_field ++ (4 ∷ 0 ∷ 0 ∷ [])) ≡ open_line ++ log_line)
    × (printed (signature_field ++ (4 ∷ 0 ∷ 1 ∷ 4 ∷ []))
    ≡ open_line ++ (114 ∷ 101 ∷ 116 ∷ 114 ∷ 105 ∷ 101 ∷ 118 ∷ 101 ∷ 32 ∷ 110 ∷ 111 ∷ 32 ∷ 54 ∷ 10 ∷ []))
    -- 3 ranks before 6; and a retrieval from an empty store, `retrieve ok 0 0`
    × (printed (signature_field ++ (4 ∷ 0 ∷ 1 ∷ 5 ∷ []))
    ≡ open_line ++ (114 ∷ 101 ∷ 116 ∷ 114 ∷ 105 ∷ 101 ∷ 118 ∷ 101 ∷ 32 ∷ 110 ∷ 111 ∷ 32 ∷ 51 ∷ 10 ∷ []))
    × (printed (signature_field ++ (4 ∷ 0 ∷ 3 ∷ 4 ∷ 0 ∷ 0 ∷ []))
    ≡ open_line ++ (114 ∷ 101 ∷ 116 ∷ 114 ∷ 105 ∷ 101 ∷ 118 ∷ 101 ∷ 32 ∷ 111 ∷ 107 ∷ 32 ∷ 48 ∷ 32 ∷ 48 ∷ 10 ∷ []))
    -- a record without fields: a is stored and asked, `insert ok 0` and `solve ok 0`
    × (printed (signature_field ++ (2 ∷ 0 ∷ 2 ∷ 0 ∷ 0 ∷ 5 ∷ 0 ∷ 4 ∷ 0 ∷ 0 ∷ 0 ∷ 0 ∷ []))
    ≡ open_line ++ (105 ∷ 110 ∷ 115 ∷ 101 ∷ 114 ∷ 116 ∷ 32 ∷ 111 ∷ 107 ∷ 32 ∷ 48 ∷ 10
    ∷ 115 ∷ 111 ∷ 108 ∷ 118 ∷ 101 ∷ 32 ∷ 111 ∷ 107 ∷ 32 ∷ 48 ∷ 10 ∷ []))
    -- 'tag 5 with fewer than two'; of two bytes it has its fixed part, and 4 ranks before 6
    × (printed (signature_field ++ (5 ∷ 0 ∷ 1 ∷ 0 ∷ [])) ≡ open_line ++ log_line)
    × (printed (signature_field ++ (5 ∷ 0 ∷ 2 ∷ 0 ∷ 0 ∷ []))
    ≡ open_line ++ (115 ∷ 111 ∷ 108 ∷ 118 ∷ 101 ∷ 32 ∷ 110 ∷ 111 ∷ 32 ∷ 52 ∷ 10 ∷ []))
    -- 'for tag 3 one that is not exactly two bytes'
    × (printed (signature_field ++ (3 ∷ 0 ∷ 0 ∷ [])) ≡ open_line ++ log_line)
    × (printed (signature_field ++ (3 ∷ 0 ∷ 1 ∷ 0 ∷ [])) ≡ open_line ++ log_line)
    × (printed (signature_field ++ (3 ∷ 0 ∷ 3 ∷ 0 ∷ 0 ∷ 0 ∷ [])) ≡ open_line ++ log_line)
    -- 'a later field that is tag 1'
    × (printed (signature_field ++ (1 ∷ 0 ∷ 4 ∷ 0 ∷ 0 ∷ 2 ∷ 1 ∷ [])) ≡ open_line ++ log_line)
    -- 'an unknown tag', and 'a cut field' after the first
    × (printed (signature_field ++ (6 ∷ 0 ∷ 0 ∷ [])) ≡ open_line ++ log_line)
    × (printed (signature_field ++ (0 ∷ 0 ∷ 0 ∷ [])) ≡ open_line ++ log_line)
    × (printed (signature_field ++ (2 ∷ 0 ∷ 4 ∷ 0 ∷ 0 ∷ [])) ≡ open_line ++ log_line)

pub printing : Printing
unfolding printed text_of_all lines_of first_lines later_lines later_operation first_operation fields_from fields_within field_before field_at digits decimal hex slot_list record_text plain_line refused_line slot_line found_line solved_line answered empty after put free_from in_use keys_from distinct place? key? candidates answers slots_from long_from listed sig_refusal arities_good refusal numbers span declared items_good is_candidate candidate agree agree_all tree_of keys_of end_of keys_t keys_a forest firsts arguments_after top stands bindings? solution solve by_free by_size step face face_var face_bound var_symbol var_var in? once_cases ℕ_discrete one at_bind at_swap at_follow dec_le terms? codes moved matcher matching against items? item? same? record_of count_of listed_from bytes field_bytes written_fields
printing = (refl, refl, refl, refl, refl, refl, refl, refl, refl, refl, refl, refl, refl, refl, refl, refl, refl, refl, refl, refl)
