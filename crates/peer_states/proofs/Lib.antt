pub mod PeerTables
