-- SCOPE.md, 'Numbers of refusal': an answer as it goes to C and Rust: its number, and the numbers that are written
-- behind `&mut`, only where that number is 0.
use Rattle.std.specs.Prelude.{ℕ, Ok, Err}
use Rattle.refusals.specs.Refusals.{number_of}
use Rattle.calls.specs.Outcome.{Reply}

-- 0, or the number of the refusal
abbrev pub reply_number : Reply → ℕ
reply_number (Ok n) = 0
reply_number (Err why) = number_of why

-- what stands there afterwards; what was there before, where the answer is a refusal
abbrev pub first_told : Reply → ℕ → ℕ
first_told (Ok n) was = n.first
first_told (Err why) was = was

abbrev pub second_of : Reply → ℕ → ℕ
second_of (Ok n) was = n.second
second_of (Err why) was = was
