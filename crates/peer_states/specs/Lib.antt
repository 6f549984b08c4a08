pub mod PeerStates
