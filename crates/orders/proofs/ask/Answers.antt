use Rattle.orders.proofs.OrderLaws.{asked_told, log_told}
use Rattle.orders.proofs.ask.Goals as goal

pub returns-in-WithKey : goal.returns-in-WithKey
returns-in-WithKey c = asked_told _ _ _ _ _ _ _ c.in-WithKey.is c.with_key.ensures

pub returns-in-Retrieve : goal.returns-in-Retrieve
returns-in-Retrieve c = asked_told _ _ _ _ _ _ _ c.in-Retrieve.is c.retrieve.ensures

pub returns-in-Solve : goal.returns-in-Solve
returns-in-Solve c = asked_told _ _ _ _ _ _ _ c.in-Solve.is c.solve.ensures

pub returns-in_default : goal.returns-in_default
returns-in_default c = log_told c.args.order _ _ _ _ c.in_default.not-WithKey c.in_default.not-Retrieve c.in_default.not-Solve
