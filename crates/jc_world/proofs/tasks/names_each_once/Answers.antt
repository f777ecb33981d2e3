use Rattle.jc_world.proofs.TaskLists.{alone_differs}
use Rattle.jc_world.proofs.tasks.names_each_once.Goals as goal

pub returns-in-One : goal.returns-in-One
returns-in-One c =
    rw c.in-One.is (alone_differs c.in-One.key)
