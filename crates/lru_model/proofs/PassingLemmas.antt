-- For proofs of callers of `insert_with`. `insert_with` is defined as an insert under a limiter with a list (`noting`):
-- the list is what the callback gets. These lemmas show that `insert_with` is an insert, too.
--     plain, plain_insert      without the list, `insert_with` is a plain insert
--     insert_granted           if growth is permitted, `insert_with` is an insert into a list without a table
pub use Rattle.lru_model.proofs.Theorems.PlainInserts.{plain, plain_insert}
pub use Rattle.lru_model.proofs.Theorems.GrantedGrowth.{insert_granted}
