-- Serves the demands (SCOPE.md, 'What the contracts owe'): every call on tables that stand for a store is the call on
-- the store.
use Rattle.layout.specs.Tables.{Tables}
use Rattle.library.specs.Store.{Store, Call, open_with, insert, delete, with_key, retrieve, solve, answered, after}
use Rattle.meaning.specs.Stand.{Stand, Means}
use Rattle.meaning.specs.Changing.{opening_means, inserting_means, deleting_means}
use Rattle.meaning.specs.Keyed.{asking_means}
use Rattle.meaning.specs.Confirmed.{retrieving_means, solving_means}
use Rattle.meaning.specs.Runs.{carried}

pub call_means : (T : Tables) (st : Store) (c : Call) → Stand T st → Means (carried T c) (answered st c) (after st c)
unfolding after
call_means T st (open_with sig) h = opening_means T st sig h
call_means T st (insert t) h = inserting_means T st t h
call_means T st (delete s) h = deleting_means T st s h
call_means T st (with_key k room) h = asking_means T st h k room
call_means T st (retrieve r q room) h = retrieving_means T st h r q room
call_means T st (solve s q room) h = solving_means T st h s q room
