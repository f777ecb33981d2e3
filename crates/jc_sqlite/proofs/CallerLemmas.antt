-- A database's loader and writer may go to another thread, as far as their runtime may: each program that boxes them cites
-- it. The check doesn't find it by itself: the record of calls that the kit's file has, `Record`, has no bytes, but isn't declared `Send`.
use mir.Syntax.{Ty}
use denote.Exit.{no}
use denote.RattleType.{RattleType}
use denote.Param.{arg}
use denote.Struct.Field.{row_field}
use denote.Param.Send.{IsSend, arg_send, owning_send, sendable}
use denote.Param.SendFields.{declared_send, as_row_send}
use Rattle.std.proofs.Crossing as std
use Rattle.std.proofs.fs.File.TheSendSync as file
use Rattle.std.proofs.sync.Mutex.TheSendSync as mutex
use Rattle.std.specs.contracts.sync.Arc as Arc
use Rattle.std.specs.contracts.sync.Mutex as Mutex
use Rattle.std.specs.contracts.alloc.Global as Heap
use Rattle.std.specs.contracts.impls.GlobalAllocator.TheImpl.{ghosts}
use Rattle.sqlite_std_file.specs.contracts.Host as File
use Rattle.sqlite_std_file.specs.contracts.host.HostCalls.TheImpl as calls
use Rattle.sqlite_std_file.specs.contracts.record.Record as Record
use Rattle.sqlite_disk.specs.declared.Disk.{Ghosts}
use Rattle.sqlite_disk.specs.contracts.Unknown as Unknown
use Rattle.sqlite_disk.specs.contracts.start.UnknownStart.TheImpl as start
use Rattle.sqlite_disk.specs.contracts.Modelled as Modelled
use Rattle.sqlite_disk.specs.contracts.modelled.ModelledDisk.TheImpl as disk
use Rattle.sqlite_disk.proofs.Modelled.TheSendSync as modelled
use Rattle.sqlite_store.specs.contracts.store.FileStoreStore.TheImpl as stored
use Rattle.sqlite_store.proofs.FileStore.TheSendSync as store
use Rattle.sqlite.proofs.Connection.TheSendSync as connection
use Rattle.std.specs.contracts.rt.LibcRuntime as Host
use Rattle.std.proofs.rt.LibcRuntime.TheSendSync as host
use Rattle.jc_sqlite.proofs.failure.Failure.TheSendSync as failure
use Rattle.std.proofs.option.Option.TheSendSync as option
use Rattle.jc_sqlite.specs.contracts.shared.Shared as Shared
use Rattle.jc_sqlite.specs.contracts.loader.DatabaseLoader as Loader
use Rattle.jc_sqlite.specs.contracts.writer.DatabaseWriter as Writer

record_send : IsSend Record.the_row
record_send = owning_send Record.the_type (search sendable, tt) (λ d. tt) (λ k x w. tt)

host_send : IsSend File.the_row
host_send = declared_send File.the_type (file.the_send, (record_send, tt))

abbrev file_row : RattleType
file_row = Modelled.the_row File.the_row Unknown.the_row calls.ghosts start.ghosts

abbrev file_ghosts : Ghosts file_row.Denot
file_ghosts = disk.ghosts File.the_row Unknown.the_row calls.ghosts disk.no_dict start.ghosts disk.no_dict disk.no_dict

file_send : IsSend file_row
file_send = modelled.the_send File.the_row Unknown.the_row calls.ghosts start.ghosts host_send

shared_send : IsSend Shared.the_row
shared_send = declared_send Shared.the_type
    (option.the_send _ (connection.the_send _ (stored.ghosts file_row file_ghosts stored.no_dict) (store.the_send file_row file_ghosts file_send)), (option.the_send _ failure.the_send, tt))

arc_send : IsSend (Arc.the_row (Mutex.the_row Shared.the_row) Heap.the_row ghosts)
arc_send = std.Arc-send (Mutex.the_row Shared.the_row) (mutex.the_send Shared.the_row shared_send) (mutex.the_sync Shared.the_row shared_send)

pub loader_send : (R : RattleType) → IsSend R → IsSend (Loader.the_row R)
loader_send R r = declared_send (Loader.the_type R) (as_row_send (row_field R) r, (arc_send, tt))

pub writer_send : (R : RattleType) → IsSend R → IsSend (Writer.the_row R)
writer_send R r = declared_send (Writer.the_type R) (as_row_send (row_field R) r, (arc_send, tt))

-- as a program owns them, whose runtime is the host's: the answers of its `proofs/main/Hidden/Sent.antt`
pub loader_sends : (δ : Ty) → IsSend (arg δ no (Loader.the_row Host.the_row))
loader_sends δ = arg_send δ no _ (loader_send Host.the_row host.the_send)

pub writer_sends : (δ : Ty) → IsSend (arg δ no (Writer.the_row Host.the_row))
writer_sends δ = arg_send δ no _ (writer_send Host.the_row host.the_send)
